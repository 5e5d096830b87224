-- The outcome of a command says what it makes of the map.
use Rattle.std.proofs.Common.{◌≡◌, ◌≢◌, ℕ, Bool, true, false, List, [], ◌∷◌, cond, Option, Some, None, refl, sym, ap, subst, ◌∙◌}
use Rattle.std.specs.Ordering.{match_ordering}
use Rattle.std.specs.declared.cmp.Ordering.{Ordering}
use Rattle.std.specs.declared.cmp.Ordering.TheVariants.{Less, Equal, Greater}
use Rattle.address.specs.Ids.{ViewId}
use Rattle.keyed_state.specs.Entries.{key_cmp, value_of, without}
use Rattle.keyed_state.specs.declared.token.Token.{Token}
use Rattle.keyed_state.specs.Tokens.{next_token}
use Rattle.replicated_map.specs.declared.command.Command.{Command}
use Rattle.replicated_map.specs.declared.command.Command.TheVariants.{Put, Remove, Replace, Clear, ReplaceAt, RemoveAt}
use Rattle.replicated_map.specs.declared.entries.Held.{Held}
use Rattle.replicated_map.specs.declared.outcome.Outcome.{Outcome}
use Rattle.replicated_map.specs.declared.outcome.Outcome.TheVariants.{Stored, Removed, Cleared, Full, Differs, Missing, NoCommand}
use Rattle.replicated_map.specs.Entries.{MapState, state_of, held, held_of, value_in, version_in, given, is_within, put_within, removed, cleared}
use Rattle.replicated_map.specs.Commands.{is_expected, has_version, command_of, carried_out, after_command}
use Rattle.replicated_map.specs.Outcomes.{put_outcome, remove_outcome, outcome_of, outcome_at, Asks, AsksPut, AsksReplace, AsksReplaceAt, StoredStands, ReplaceStands, VersionStands, RemovalStands, VersionRemovalStands, FullIsKeptOut, DifferentIsKept, OtherVersionIsKept, OtherVersionIsNotRemoved, MissingIsKept, ClearedStands, NoCommandIsKept}
use Rattle.replicated_map.proofs.EntriesChange.{Entries}
use Rattle.replicated_map.proofs.ReplacementsChange.{is-expected, expected-is, has-version, version-is, given-there}

-- ---- a put's outcome, and what it makes of the map

record IsStored (view : ViewId) (k v : List ℕ) (s : MapState) (t : Token) (u : MapState) : Type 0 where
  version : t ≡ next_token view s.last
  new : u ≡ given view k v s

put-is : (view : ViewId) (k v : List ℕ) (s : MapState) (version : Token) → put_outcome view k v s ≡ Stored version → IsStored view k v s version (put_within view k v s)
put-is view k v s version = by (is_within (given view k v s)) where
  by : (b : Bool) → cond b (Stored (next_token view s.last)) Full ≡ Stored version → IsStored view k v s version (cond b (given view k v s) s)
  by true e = record { version = cc; new = refl }
  by false e = absurd cc

put-is-out : (view : ViewId) (k v : List ℕ) (s : MapState) → put_outcome view k v s ≡ Full → (is_within (given view k v s) ≡ false) × (put_within view k v s ≡ s)
put-is-out view k v s = by (is_within (given view k v s)) refl where
  by : (b : Bool) → is_within (given view k v s) ≡ b → cond b (Stored (next_token view s.last)) Full ≡ Full → (is_within (given view k v s) ≡ false) × (cond b (given view k v s) s ≡ s)
  by true test e = absurd cc
  by false test e = (test, refl)

-- a put stores or is full, and nothing else
abbrev IsPutOutcome : Outcome → Type 0
IsPutOutcome (Stored t) = Unit {0}
IsPutOutcome (Removed t) = ⊥
IsPutOutcome Cleared = ⊥
IsPutOutcome Full = Unit {0}
IsPutOutcome (Differs x) = ⊥
IsPutOutcome Missing = ⊥
IsPutOutcome NoCommand = ⊥

put-outcome : (view : ViewId) (k v : List ℕ) (s : MapState) → IsPutOutcome (put_outcome view k v s)
put-outcome view k v s = by (is_within (given view k v s)) where
  by : (b : Bool) → IsPutOutcome (cond b (Stored (next_token view s.last)) Full)
  by true = tt
  by false = tt

put-only : (view : ViewId) (k v : List ℕ) (s : MapState) (o : Outcome) → put_outcome view k v s ≡ o → IsPutOutcome o
put-only view k v s o e = subst IsPutOutcome e (put-outcome view k v s)

same-differs : (y x : Option Held) → Differs y ≡ Differs x → y ≡ x
same-differs y x e = cc

-- ---- by whether a test lets it through

stored-by : (view : ViewId) (k v : List ℕ) (s : MapState) (version : Token) (b : Bool) (x : Option Held) → cond b (put_outcome view k v s) (Differs x) ≡ Stored version
    → (b ≡ true) × IsStored view k v s version (cond b (put_within view k v s) s)
stored-by view k v s version true x e = (refl, put-is view k v s version e)
stored-by view k v s version false x e = absurd cc

full-by : (view : ViewId) (k v : List ℕ) (s : MapState) (b : Bool) (x : Option Held) → cond b (put_outcome view k v s) (Differs x) ≡ Full
    → (is_within (given view k v s) ≡ false) × (cond b (put_within view k v s) s ≡ s)
full-by view k v s true x e = put-is-out view k v s e
full-by view k v s false x e = absurd cc

differs-by : (view : ViewId) (k v : List ℕ) (s t : MapState) (b : Bool) (x y : Option Held) → cond b (put_outcome view k v s) (Differs y) ≡ Differs x → (b ≡ false) × (y ≡ x) × (cond b t s ≡ s)
differs-by view k v s t true x y e = absurd (put-only view k v s (Differs x) e)
differs-by view k v s t false x y e = (refl, same-differs y x e, refl)

command-by : (view : ViewId) (k v : List ℕ) (s : MapState) (b : Bool) (y : Option Held) → cond b (put_outcome view k v s) (Differs y) ≡ NoCommand → ⊥
command-by view k v s true y e = put-only view k v s NoCommand e
command-by view k v s false y e = cc

cleared-by : (view : ViewId) (k v : List ℕ) (s : MapState) (b : Bool) (y : Option Held) → cond b (put_outcome view k v s) (Differs y) ≡ Cleared → ⊥
cleared-by view k v s true y e = put-only view k v s Cleared e
cleared-by view k v s false y e = cc

-- ---- the law

at : (s : MapState) (payload : List ℕ) (c : Option Command) (o : Outcome) → command_of payload ≡ c → outcome_at s payload ≡ o → outcome_of s c ≡ o
at s payload c o is e = sym (ap (outcome_of s) is) ∙ e

stored : (s : MapState) (c : Command) (view : ViewId) (k v : List ℕ) (version : Token) → Asks c view k v → outcome_of s (Some c) ≡ Stored version → IsStored view k v s version (carried_out s c)
stored s _ _ _ _ version (AsksPut view k v) e = put-is view k v s version e
stored s _ _ _ _ version (AsksReplace view w k v) e = (stored-by view k v s version (is_expected (value_in (held_of k s)) w) (held_of k s) e).1
stored s _ _ _ _ version (AsksReplaceAt view t k v) e = (stored-by view k v s version (has_version (held_of k s) t) (held_of k s) e).1

pub stored-stands : StoredStands
stored-stands s from payload c view k v version is asks e =
    let done = stored s c view k v version asks (at s payload (Some c) (Stored version) is e) in
    let after = ap (after_command s) is ∙ done.new in
    (done.version, after, ap (held_of k) after ∙ given-there view k v s ∙ ap (λ (t : Token). Some (held t v)) (sym done.version))

pub replace-stands : ReplaceStands
replace-stands s payload view w k v version is e =
    let done = stored-by view k v s version (is_expected (value_in (held_of k s)) w) (held_of k s) (at s payload (Some (Replace view w k v)) (Stored version) is e) in
    expected-is (value_in (held_of k s)) w done.0

pub version-stands : VersionStands
version-stands s payload view t k v version is e =
    let done = stored-by view k v s version (has_version (held_of k s) t) (held_of k s) (at s payload (Some (ReplaceAt view t k v)) (Stored version) is e) in
    version-is (held_of k s) t done.0

removal-is : (o : Option Held) (version : Token) → remove_outcome o ≡ Removed version → version_in o ≡ Some version
removal-is None version e = absurd cc
removal-is (Some h) version e = let same : h.version ≡ version = cc in ap (λ (t : Token). Some t) same

pub removal-stands : RemovalStands
removal-stands s from payload k version is e = (removal-is (held_of k s) version (at s payload (Some (Remove k)) (Removed version) is e), ap (after_command s) is)

some-token : (a b : Token) → Some a ≡ Some b → a ≡ b
some-token a b e = cc

removed-by : (s : MapState) (k : List ℕ) (t version : Token) (b : Bool) → has_version (held_of k s) t ≡ b → cond b (remove_outcome (held_of k s)) (Differs (held_of k s)) ≡ Removed version
    → (version ≡ t) × (version_in (held_of k s) ≡ Some t) × (cond b (removed k s) s ≡ removed k s)
removed-by s k t version true test e =
    let has = version-is (held_of k s) t test in
    (some-token version t (sym (removal-is (held_of k s) version e) ∙ has), has, refl)
removed-by s k t version false test e = absurd cc

pub version-removal : VersionRemovalStands
version-removal s from payload k t version is e =
    let done = removed-by s k t version (has_version (held_of k s) t) refl (at s payload (Some (RemoveAt t k)) (Removed version) is e) in
    (done.0, done.1, ap (after_command s) is ∙ done.2)

full : (s : MapState) (c : Command) (view : ViewId) (k v : List ℕ) → Asks c view k v → outcome_of s (Some c) ≡ Full → (is_within (given view k v s) ≡ false) × (carried_out s c ≡ s)
full s _ _ _ _ (AsksPut view k v) e = put-is-out view k v s e
full s _ _ _ _ (AsksReplace view w k v) e = full-by view k v s (is_expected (value_in (held_of k s)) w) (held_of k s) e
full s _ _ _ _ (AsksReplaceAt view t k v) e = full-by view k v s (has_version (held_of k s) t) (held_of k s) e

pub full-kept-out : FullIsKeptOut
full-kept-out s from payload c view k v is asks e =
    let out = full s c view k v asks (at s payload (Some c) Full is e) in
    (out.0, ap (after_command s) is ∙ out.1)

pub different : DifferentIsKept
different s from payload view w k v x is e =
    let d = differs-by view k v s (put_within view k v s) (is_expected (value_in (held_of k s)) w) x (held_of k s) (at s payload (Some (Replace view w k v)) (Differs x) is e) in
    let other : value_in x ≢ w = λ same. let found = is-expected (value_in (held_of k s)) w (ap value_in d.1 ∙ same) in let test = d.0 in cc in
    (d.1, other, ap (after_command s) is ∙ d.2)

pub other-version : OtherVersionIsKept
other-version s from payload view t k v x is e =
    let d = differs-by view k v s (put_within view k v s) (has_version (held_of k s) t) x (held_of k s) (at s payload (Some (ReplaceAt view t k v)) (Differs x) is e) in
    let other : version_in x ≢ Some t = λ same. let found = has-version (held_of k s) t (ap version_in d.1 ∙ same) in let test = d.0 in cc in
    (d.1, other, ap (after_command s) is ∙ d.2)

no-difference : (o x : Option Held) → remove_outcome o ≡ Differs x → ⊥
no-difference None x e = cc
no-difference (Some h) x e = cc

kept-by : (s : MapState) (k : List ℕ) (t : Token) (x : Option Held) (b : Bool) → cond b (remove_outcome (held_of k s)) (Differs (held_of k s)) ≡ Differs x → (b ≡ false) × (held_of k s ≡ x) × (cond b (removed k s) s ≡ s)
kept-by s k t x true e = absurd (no-difference (held_of k s) x e)
kept-by s k t x false e = (refl, same-differs (held_of k s) x e, refl)

pub not-removed : OtherVersionIsNotRemoved
not-removed s from payload t k x is e =
    let d = kept-by s k t x (has_version (held_of k s) t) (at s payload (Some (RemoveAt t k)) (Differs x) is e) in
    let other : version_in x ≢ Some t = λ same. let found = has-version (held_of k s) t (ap version_in d.1 ∙ same) in let test = d.0 in cc in
    (d.1, other, ap (after_command s) is ∙ d.2)

missing-is : (o : Option Held) → remove_outcome o ≡ Missing → o ≡ None
missing-is None e = refl
missing-is (Some h) e = absurd cc

without-missing : (k : List ℕ) (s : Entries) → value_of k s ≡ None → without k s ≡ s
without-missing k [] none = refl
without-missing k (x ∷ xs) none = by (key_cmp k x.key) (without-missing k xs) none where
  by : (o : Ordering) → (value_of k xs ≡ None → without k xs ≡ xs) → match_ordering o None (Some x.value) (value_of k xs) ≡ None → match_ordering o (x ∷ xs) xs (x ∷ without k xs) ≡ x ∷ xs
  by Less rest none = refl
  by Equal rest none = absurd cc
  by Greater rest none = ap (λ (l : Entries). x ∷ l) (rest none)

pub missing : MissingIsKept
missing s from payload k is e =
    let none = missing-is (held_of k s) (at s payload (Some (Remove k)) Missing is e) in
    (none, ap (after_command s) is ∙ ap (state_of s.last) (without-missing k s.entries none))

removal-a-command : (o : Option Held) → remove_outcome o ≡ NoCommand → ⊥
removal-a-command None e = cc
removal-a-command (Some h) e = cc

version-a-command : (s : MapState) (k : List ℕ) (b : Bool) → cond b (remove_outcome (held_of k s)) (Differs (held_of k s)) ≡ NoCommand → ⊥
version-a-command s k true e = removal-a-command (held_of k s) e
version-a-command s k false e = cc

pub no-command : NoCommandIsKept
no-command s from payload e = by (command_of payload) refl e where
  by : (c : Option Command) → command_of payload ≡ c → outcome_of s c ≡ NoCommand → (c ≡ None) × (after_command s c ≡ s)
  by None is o = (refl, refl)
  by (Some (Put view k v)) is o = absurd (put-only view k v s NoCommand o)
  by (Some (Remove k)) is o = absurd (removal-a-command (held_of k s) o)
  by (Some (Replace view w k v)) is o = absurd (command-by view k v s (is_expected (value_in (held_of k s)) w) (held_of k s) o)
  by (Some Clear) is o = absurd cc
  by (Some (ReplaceAt view t k v)) is o = absurd (command-by view k v s (has_version (held_of k s) t) (held_of k s) o)
  by (Some (RemoveAt t k)) is o = absurd (version-a-command s k (has_version (held_of k s) t) o)

no-clear : (o : Option Held) → remove_outcome o ≡ Cleared → ⊥
no-clear None e = cc
no-clear (Some h) e = cc

version-no-clear : (s : MapState) (k : List ℕ) (b : Bool) → cond b (remove_outcome (held_of k s)) (Differs (held_of k s)) ≡ Cleared → ⊥
version-no-clear s k true e = no-clear (held_of k s) e
version-no-clear s k false e = cc

pub clears : ClearedStands
clears s from payload e = by (command_of payload) e where
  by : (c : Option Command) → outcome_of s c ≡ Cleared → after_command s c ≡ cleared s
  by None o = absurd cc
  by (Some (Put view k v)) o = absurd (put-only view k v s Cleared o)
  by (Some (Remove k)) o = absurd (no-clear (held_of k s) o)
  by (Some (Replace view w k v)) o = absurd (cleared-by view k v s (is_expected (value_in (held_of k s)) w) (held_of k s) o)
  by (Some Clear) o = refl
  by (Some (ReplaceAt view t k v)) o = absurd (cleared-by view k v s (has_version (held_of k s) t) (held_of k s) o)
  by (Some (RemoveAt t k)) o = absurd (version-no-clear s k (has_version (held_of k s) t) o)
