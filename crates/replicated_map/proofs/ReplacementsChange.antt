-- What a replacement makes of a map, and which puts stay within the limits of its state.
use Rattle.std.proofs.Common.{◌≡◌, ℕ, Bool, true, false, List, cond, Option, Some, None, refl, sym, ap, subst, ◌∙◌}
use Rattle.std.proofs.lemmas.Option.{none-some, same_Some}
use Rattle.std.proofs.lemmas.Slice.Eq.{bytes_eq-Decides}
use Rattle.address.specs.Ids.{ViewId}
use Rattle.keyed_state.proofs.LookUpsFind.{found-there}
use Rattle.keyed_state.specs.declared.token.Token.{Token}
use Rattle.keyed_state.specs.Tokens.{next_token}
use Rattle.keyed_state.specs.TokenLaws.{token-is, is-token}
use Rattle.replicated_map.specs.declared.entries.Held.{Held}
use Rattle.replicated_map.specs.Entries.{MapState, held, held_of, value_in, version_in, given, put_within, removed}
use Rattle.replicated_map.specs.Commands.{is_expected, has_version, map_apply, after_command}
use Rattle.replicated_map.specs.Changes.{ReplacedIfExpected, KeptIfNotExpected, ReplacedOnce, ReplacedAtItsVersion, KeptAtAnotherVersion, RemovedAtItsVersion, NotRemovedAtAnother, PutIfItFits, PutIsKeptOut, ReplaceIsKeptOut, VersionIsKeptOut, NewKeyTakes, NewValueTakes, RemovalGives}
use Rattle.replicated_map.proofs.EntriesChange.{put-goes, put-stays, new-key, new-value, removal-size}

-- ---- expected values and versions

-- the test finds out whether a value is the expected one
pub is-expected : (found expected : Option (List ℕ)) → found ≡ expected → is_expected found expected ≡ true
is-expected None expected same = subst (λ (o : Option (List ℕ)). is_expected None o ≡ true) same refl
is-expected (Some v) expected same = subst (λ (o : Option (List ℕ)). is_expected (Some v) o ≡ true) same ((bytes_eq-Decides v v).1 refl)

pub expected-is : (found expected : Option (List ℕ)) → is_expected found expected ≡ true → found ≡ expected
expected-is None None e = refl
expected-is None (Some w) e = absurd cc
expected-is (Some v) None e = absurd cc
expected-is (Some v) (Some w) e = ap (λ (x : List ℕ). Some x) ((bytes_eq-Decides v w).0 e)

-- and whether it is of a version
pub has-version : (found : Option Held) (t : Token) → version_in found ≡ Some t → has_version found t ≡ true
has-version None t e = absurd (none-some t e)
has-version (Some h) t e = is-token h.version t (same_Some h.version t e)

pub version-is : (found : Option Held) (t : Token) → has_version found t ≡ true → version_in found ≡ Some t
version-is None t e = absurd cc
version-is (Some h) t e = ap (λ (x : Token). Some x) (token-is h.version t e)

-- ---- what a test lets through, and what it keeps

through : (s t : MapState) (b : Bool) → b ≡ true → cond b t s ≡ t
through s t b e = ap (λ (x : Bool). cond x t s) e

kept-at : (s t : MapState) (b : Bool) → (b ≡ true → ⊥) → cond b t s ≡ s
kept-at s t true not = absurd (not refl)
kept-at s t false not = refl

either : (s t : MapState) (b : Bool) → t ≡ s → cond b t s ≡ s
either s t true same = same
either s t false same = refl

-- ---- the limits

pub put-fits : PutIfItFits
put-fits s from payload view k v e fits = ap (after_command s) e ∙ put-goes view k v s fits

pub put-kept-out : PutIsKeptOut
put-kept-out s from payload view k v e past = ap (after_command s) e ∙ put-stays view k v s past

pub replace-kept-out : ReplaceIsKeptOut
replace-kept-out s from payload view expected k v e past =
    ap (after_command s) e ∙ either s (put_within view k v s) (is_expected (value_in (held_of k s)) expected) (put-stays view k v s past)

pub version-kept-out : VersionIsKeptOut
version-kept-out s from payload view t k v e past =
    ap (after_command s) e ∙ either s (put_within view k v s) (has_version (held_of k s) t) (put-stays view k v s past)

-- ---- replacements

pub replaced : ReplacedIfExpected
replaced s from payload view expected k v e same fits =
    ap (after_command s) e
    ∙ through s (put_within view k v s) (is_expected (value_in (held_of k s)) expected) (is-expected (value_in (held_of k s)) expected same)
    ∙ put-goes view k v s fits

pub not-replaced : KeptIfNotExpected
not-replaced s from payload view expected k v e other =
    ap (after_command s) e
    ∙ kept-at s (put_within view k v s) (is_expected (value_in (held_of k s)) expected) (λ test. other (expected-is (value_in (held_of k s)) expected test))

-- what a key has that was given a value
pub given-there : (view : ViewId) (k v : List ℕ) (s : MapState) → held_of k (given view k v s) ≡ Some (held (next_token view s.last) v)
given-there view k v s = found-there k (held (next_token view s.last) v) s.entries

pub replaced-once : ReplacedOnce
replaced-once s first second payload later view other expected k v w e f same new fits =
    let done = replaced s first payload view expected k v e same fits in
    let has : value_in (held_of k (map_apply s first payload)) ≡ Some v = ap (λ (x : MapState). value_in (held_of k x)) done ∙ ap value_in (given-there view k v s) in
    not-replaced (map_apply s first payload) second later other expected k w f (λ again. new (sym has ∙ again))

pub replaced-at : ReplacedAtItsVersion
replaced-at s from payload view t k v e is fits =
    ap (after_command s) e ∙ through s (put_within view k v s) (has_version (held_of k s) t) (has-version (held_of k s) t is) ∙ put-goes view k v s fits

pub kept-at-another : KeptAtAnotherVersion
kept-at-another s from payload view t k v e other =
    ap (after_command s) e ∙ kept-at s (put_within view k v s) (has_version (held_of k s) t) (λ test. other (version-is (held_of k s) t test))

pub removed-at : RemovedAtItsVersion
removed-at s from payload t k e is = ap (after_command s) e ∙ through s (removed k s) (has_version (held_of k s) t) (has-version (held_of k s) t is)

pub not-removed : NotRemovedAtAnother
not-removed s from payload t k e other =
    ap (after_command s) e ∙ kept-at s (removed k s) (has_version (held_of k s) t) (λ test. other (version-is (held_of k s) t test))

-- ---- sizes

pub key-takes : NewKeyTakes
key-takes s k h free = new-key s.entries k h free

pub value-takes : NewValueTakes
value-takes s k h old at = new-value s.entries k h old at

pub removal : RemovalGives
removal s from payload k old e at = (ap (after_command s) e, removal-size s.entries k old at)
