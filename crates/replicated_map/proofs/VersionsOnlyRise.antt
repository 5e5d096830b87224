-- Versions rise along the messages, and none comes back.
use Rattle.std.proofs.Common.{◌≡◌, ◌≢◌, ◌⊎◌, inl, inr, ℕ, Bool, true, false, List, [], ◌∷◌, cond, Option, Some, None, refl, sym, ap, subst, ◌∙◌}
use Rattle.std.specs.Ordering.{is_eq}
use Rattle.std.proofs.lemmas.Option.{none-some, same_Some}
use Rattle.address.specs.Ids.{ViewId}
use Rattle.trace_props.specs.declared.event.Message.{Message}
use Rattle.keyed_state.specs.Entries.{key_cmp}
use Rattle.keyed_state.proofs.LookUpsFind.{found-put, found-without}
use Rattle.keyed_state.specs.declared.token.Token.{Token}
use Rattle.keyed_state.specs.Tokens.{IsBelow, is_up_to, next_token}
use Rattle.keyed_state.specs.TokenLaws.{up-refl, up-trans, up-below, below-is-up, not-below-itself, next-above, next-above-views}
use Rattle.replicated_map.specs.declared.command.Command.{Command}
use Rattle.replicated_map.specs.declared.command.Command.TheVariants.{Put, Remove, Replace, Clear, ReplaceAt, RemoveAt}
use Rattle.replicated_map.specs.declared.entries.Held.{Held}
use Rattle.keyed_state.specs.StateLaws.{token-up}
use Rattle.replicated_map.specs.Values.{held_form}
use Rattle.replicated_map.specs.Entries.{MapState, held, held_of, value_in, version_in, IsMap, given, is_within, put_within, removed}
use Rattle.replicated_map.specs.Commands.{is_expected, has_version, command_of, carried_out, after_command}
use Rattle.replicated_map.specs.CommandLaws.{command_is_spelled, carried_out_is_map}
use Rattle.replicated_map.specs.Outcomes.{Asks, AsksPut, AsksReplace, AsksReplaceAt}
use Rattle.replicated_map.specs.Versions.{after, after_all, Gives, AboveAllBefore, AboveLowerViews, VersionsRise, NamesOneValue, GoneIsGone}

-- no version is above the last
up-to-last : (s : MapState) (k : List ℕ) (h : Held) → IsMap s → held_of k s ≡ Some h → is_up_to h.version s.last ≡ true
up-to-last s k h is at = token-up held_form k h s is at

-- ---- from one state to a later one

-- the last version does not fall, and what a key has it had before, or else it has a version above the last
record Goes (k : List ℕ) (s t : MapState) : Type 0 where
  up : is_up_to s.last t.last ≡ true
  from : (g : Held) → held_of k t ≡ Some g → (held_of k s ≡ Some g) ⊎ IsBelow s.last g.version

stays : (k : List ℕ) (s : MapState) → Goes k s s
stays k s = record { up = up-refl s.last; from = λ g at. inl at }

goes-on : (k : List ℕ) (s t u : MapState) → Goes k s t → Goes k t u → Goes k s u
goes-on k s t u first second = record { up = up-trans s.last t.last u.last first.up second.up; from = λ g at. by g (second.from g at) } where
  by : (g : Held) → (held_of k t ≡ Some g) ⊎ IsBelow t.last g.version → (held_of k s ≡ Some g) ⊎ IsBelow s.last g.version
  by g (inl at) = first.from g at
  by g (inr above) = inr (up-below s.last t.last g.version first.up above)

goes-given : (k l v : List ℕ) (view : ViewId) (s : MapState) → Goes k s (given view l v s)
goes-given k l v view s = record { up = below-is-up s.last next (next-above view s.last); from = λ g at. by g (is_eq (key_cmp k l)) (sym (found-put l (held next v) s.entries k) ∙ at) } where
  next : Token
  next = next_token view s.last

  by : (g : Held) (b : Bool) → cond b (Some (held next v)) (held_of k s) ≡ Some g → (held_of k s ≡ Some g) ⊎ IsBelow s.last g.version
  by g true e = inr (subst (λ (h : Held). IsBelow s.last h.version) (same_Some (held next v) g e) (next-above view s.last))
  by g false e = inl e

goes-put : (k l v : List ℕ) (view : ViewId) (s : MapState) → Goes k s (put_within view l v s)
goes-put k l v view s = by (is_within (given view l v s)) where
  by : (b : Bool) → Goes k s (cond b (given view l v s) s)
  by true = goes-given k l v view s
  by false = stays k s

goes-removed : (k l : List ℕ) (s : MapState) → IsMap s → Goes k s (removed l s)
goes-removed k l s is = record { up = up-refl s.last; from = λ g at. by g (is_eq (key_cmp k l)) (sym (found-without l s.entries k is.rises) ∙ at) } where
  by : (g : Held) (b : Bool) → cond b None (held_of k s) ≡ Some g → (held_of k s ≡ Some g) ⊎ IsBelow s.last g.version
  by g true e = absurd (none-some g e)
  by g false e = inl e

goes-if : (k : List ℕ) (s t : MapState) (b : Bool) → Goes k s t → Goes k s (cond b t s)
goes-if k s t true goes = goes
goes-if k s t false goes = stays k s

goes-by : (k : List ℕ) (s : MapState) (c : Option Command) → IsMap s → Goes k s (after_command s c)
goes-by k s None is = stays k s
goes-by k s (Some (Put view l v)) is = goes-put k l v view s
goes-by k s (Some (Remove l)) is = goes-removed k l s is
goes-by k s (Some (Replace view w l v)) is = goes-if k s (put_within view l v s) (is_expected (value_in (held_of l s)) w) (goes-put k l v view s)
goes-by k s (Some Clear) is = record { up = up-refl s.last; from = λ g at. absurd (none-some g at) }
goes-by k s (Some (ReplaceAt view t l v)) is = goes-if k s (put_within view l v s) (has_version (held_of l s) t) (goes-put k l v view s)
goes-by k s (Some (RemoveAt t l)) is = goes-if k s (removed l s) (has_version (held_of l s) t) (goes-removed k l s is)

goes-one : (k : List ℕ) (s : MapState) (m : Message) → IsMap s → Goes k s (after s m)
goes-one k s m is = goes-by k s (command_of m.payload) is

one-is-map : (s : MapState) (m : Message) → IsMap s → IsMap (after s m)
one-is-map s m is = by (command_of m.payload) refl where
  by : (o : Option Command) → command_of m.payload ≡ o → IsMap (after_command s o)
  by None e = is
  by (Some c) e = carried_out_is_map s c is (command_is_spelled m.payload c e).0

goes-all : (k : List ℕ) (ms : List Message) (s : MapState) → IsMap s → Goes k s (after_all s ms)
goes-all k [] s is = stays k s
goes-all k (m ∷ ms) s is = goes-on k s (after s m) (after_all (after s m) ms) (goes-one k s m is) (goes-all k ms (after s m) (one-is-map s m is))

all-is-map : (ms : List Message) (s : MapState) → IsMap s → IsMap (after_all s ms)
all-is-map [] s is = is
all-is-map (m ∷ ms) s is = all-is-map ms (after s m) (one-is-map s m is)

-- ---- the laws

above-last : (s : MapState) (m : Message) (k : List ℕ) (h : Held) → IsMap s → Gives k m s h → IsBelow s.last h.version
above-last s m k h is gives = by ((goes-one k s m is).from h gives.stands) where
  by : (held_of k s ≡ Some h) ⊎ IsBelow s.last h.version → IsBelow s.last h.version
  by (inl before) = absurd (gives.new before)
  by (inr above) = above

pub above-all : AboveAllBefore
above-all s m k l h g is gives at =
    let above = above-last s m k h is gives in
    (above, up-below g.version s.last h.version (up-to-last s l g is at) above)

pub rise : VersionsRise
rise s m ms n k l h g is first second =
    let next = one-is-map s m is in
    let later = all-is-map ms (after s m) next in
    let held_then = up-to-last (after s m) k h next first.stands in
    let up = (goes-all k ms (after s m) next).up in
    up-below h.version (after_all (after s m) ms).last g.version (up-trans h.version (after s m).last (after_all (after s m) ms).last held_then up) (above-last (after_all (after s m) ms) n l g later second)

-- a version that is not above the last one is not given any more
not-again : (s : MapState) (g : Held) (t : Token) → is_up_to t s.last ≡ true → IsBelow s.last g.version → t ≡ g.version → ⊥
not-again s g t up above same =
    let below : IsBelow t t = subst (λ (x : Token). IsBelow t x) (sym same) (up-below t s.last g.version up above) in
    let never = not-below-itself t in
    cc

pub one-value : NamesOneValue
one-value s ms k h g is at later same = by ((goes-all k ms s is).from g later) where
  by : (held_of k s ≡ Some g) ⊎ IsBelow s.last g.version → h ≡ g
  by (inl before) = same_Some h g (sym at ∙ before)
  by (inr above) = absurd (not-again s g h.version (up-to-last s k h is at) above same)

some-version : (o : Option Held) (t : Token) → version_in o ≡ Some t → (g : Held) × (o ≡ Some g) × (g.version ≡ t)
some-version None t e = absurd (none-some t e)
some-version (Some g) t e = (g, refl, same_Some g.version t e)

pub gone : GoneIsGone
gone s m ms k h is at other = λ again. by again where
  next : IsMap (after s m)
  next = one-is-map s m is

  up : is_up_to h.version s.last ≡ true
  up = up-to-last s k h is at

  at-once : (g : Held) → held_of k (after s m) ≡ Some g → g.version ≡ h.version → (held_of k s ≡ Some g) ⊎ IsBelow s.last g.version → ⊥
  at-once g now same (inl before) = other (now ∙ sym before ∙ at)
  at-once g now same (inr above) = not-again s g h.version up above (sym same)

  by-last : (g : Held) → g.version ≡ h.version → (held_of k (after s m) ≡ Some g) ⊎ IsBelow (after s m).last g.version → ⊥
  by-last g same (inl now) = at-once g now same ((goes-one k s m is).from g now)
  by-last g same (inr above) = not-again (after s m) g h.version (up-trans h.version s.last (after s m).last up (goes-one k s m is).up) above (sym same)

  by : version_in (held_of k (after_all (after s m) ms)) ≡ Some h.version → ⊥
  by again =
      let found = some-version (held_of k (after_all (after s m) ms)) h.version again in
      by-last found.0 found.2 ((goes-all k ms (after s m) next).from found.0 found.1)

-- ---- views

abbrev IsOf : ViewId → MapState → Held → Type 0
IsOf view s h = h.version ≡ next_token view s.last

-- what a put gives, which the key had not
put-gives : (k l v : List ℕ) (view : ViewId) (s : MapState) (h : Held) → held_of k (put_within view l v s) ≡ Some h → held_of k s ≢ Some h → IsOf view s h
put-gives k l v view s h = by (is_within (given view l v s)) where
  next : Token
  next = next_token view s.last

  at-key : (b : Bool) → cond b (Some (held next v)) (held_of k s) ≡ Some h → held_of k s ≢ Some h → IsOf view s h
  at-key true e new = ap (λ (x : Held). x.version) (sym (same_Some (held next v) h e))
  at-key false e new = absurd (new e)

  by : (b : Bool) → held_of k (cond b (given view l v s) s) ≡ Some h → held_of k s ≢ Some h → IsOf view s h
  by true e new = at-key (is_eq (key_cmp k l)) (sym (found-put l (held next v) s.entries k) ∙ e) new
  by false e new = absurd (new e)

gives-if : (k l v : List ℕ) (view : ViewId) (s : MapState) (h : Held) (b : Bool) → held_of k (cond b (put_within view l v s) s) ≡ Some h → held_of k s ≢ Some h → IsOf view s h
gives-if k l v view s h true e new = put-gives k l v view s h e new
gives-if k l v view s h false e new = absurd (new e)

given-by : (s : MapState) (c : Command) (view : ViewId) (k l v : List ℕ) (h : Held) → Asks c view l v → held_of k (carried_out s c) ≡ Some h → held_of k s ≢ Some h → IsOf view s h
given-by s _ _ k _ _ h (AsksPut view l v) e new = put-gives k l v view s h e new
given-by s _ _ k _ _ h (AsksReplace view w l v) e new = gives-if k l v view s h (is_expected (value_in (held_of l s)) w) e new
given-by s _ _ k _ _ h (AsksReplaceAt view t l v) e new = gives-if k l v view s h (has_version (held_of l s) t) e new

pub above-views : AboveLowerViews
above-views s m c view k l v h t is e asks gives lower =
    let stands : held_of k (carried_out s c) ≡ Some h = sym (ap (λ (o : Option Command). held_of k (after_command s o)) e) ∙ gives.stands in
    let of = given-by s c view k l v h asks stands gives.new in
    subst (λ (x : Token). IsBelow t x) (sym of) (next-above-views view s.last t lower)
