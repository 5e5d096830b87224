-- The laws of such states and of their encoding.
use Rattle.std.proofs.Common.{◌≡◌, ℕ, ◌+◌, ◌≤◌, Bool, true, cond, eqb, leb, ◌&&◌, List, [], ◌∷◌, ◌++◌, length, Some, None, refl, sym, ap, subst, ◌∙◌, arith}
use Rattle.std.specs.List.{flat_map, AllByRecursion, sum_by}
use Rattle.std.specs.Ordering.{match_ordering}
use Rattle.std.specs.declared.cmp.Ordering.{Ordering}
use Rattle.std.specs.declared.cmp.Ordering.TheVariants.{Less, Equal, Greater}
use Rattle.std.proofs.lemmas.Bool.{eqb-true, leb-true, le-leb, and_parts}
use Rattle.std.proofs.lemmas.List.{append-nil, nil_from_length, length-append}
use Rattle.std.proofs.lemmas.List.Sums.{sum_by-cons}
use Rattle.std.proofs.lemmas.Option.{cond_some, none-some, same_Some}
use Rattle.byteorder.specs.Endian.{big_bytes}
use Rattle.big_endian.proofs.Bytes.{wide4}
use Rattle.address.specs.declared.limits.TheConstants.{STATE}
use Rattle.big_endian.proofs.PartLaws.{bind_some, IsPart}
use Rattle.keyed_state.specs.declared.entries.KeyedEntry.{KeyedEntry}
use Rattle.keyed_state.specs.Entries.{key_cmp, entry_of, value_of, put, without, rises}
use Rattle.keyed_state.specs.EntryLaws.{rises-found, rises-tested, all-put, all-without, holds-of, rises-put, rises-without}
use Rattle.keyed_state.specs.Keys.{IsKey, key_bytes}
use Rattle.keyed_state.specs.KeyLaws.{key_part}
use Rattle.keyed_state.specs.declared.token.Token.{Token}
use Rattle.keyed_state.specs.Tokens.{IsToken, is_up_to, least_token}
use Rattle.keyed_state.specs.Spelling.{token_bytes}
use Rattle.keyed_state.specs.PartLaws.{two_parts, counted_part}
use Rattle.keyed_state.specs.SpellingLaws.{token_part, length-token}
use Rattle.keyed_state.specs.TokenLaws.{up-trans}
use Rattle.keyed_state.specs.States.{Form, KeyedState, state_of, entry_bytes, entry_at, entry_size, state_encode, state_at, state_size, are_up_to, state_decode, IsEntry, AreUpTo, IsState}

-- what holds of what a key may have: its bytes are as many as is said, those that can be spelled are read back, and each is one of those, if a state has room for it
pub record FormLaws {V : Type 0} (form : Form V) : Type 0 where
  pub sized : (v : V) → length (form.bytes_of v) ≡ form.size_of v
  pub part : IsPart form.read_at form.bytes_of form.IsShort
  pub short : (v : V) → form.IsValue v → form.size_of v ≤ STATE → form.IsShort v
  pub plain : (v : V) → form.IsShort v → form.IsValue v

module _ {V : Type 0} (form : Form V) where
  -- ---- sizes

  pub size-without : (k : List ℕ) (xs : List (KeyedEntry V)) → sum_by (entry_size form) (without k xs) ≤ sum_by (entry_size form) xs
  size-without k [] = omega arith
  size-without k (x ∷ xs) = by (key_cmp k x.key) (size-without k xs) where
    by : (o : Ordering) → sum_by (entry_size form) (without k xs) ≤ sum_by (entry_size form) xs → sum_by (entry_size form) (match_ordering o (x ∷ xs) xs (x ∷ without k xs)) ≤ sum_by (entry_size form) (x ∷ xs)
    by Less rest = omega arith
    by Equal rest = omega (arith, sum_by-cons (entry_size form) x xs)
    by Greater rest = omega (arith, rest, sum_by-cons (entry_size form) x xs, sum_by-cons (entry_size form) x (without k xs))

  pub size-put : (k : List ℕ) (xs : List (KeyedEntry V)) (old v : V) → value_of k xs ≡ Some old → sum_by (entry_size form) (put k v xs) + form.size_of old ≡ sum_by (entry_size form) xs + form.size_of v
  size-put k [] old v at = absurd (none-some old at)
  size-put k (x ∷ xs) old v at = by (key_cmp k x.key) (size-put k xs old v) at where
    by : (o : Ordering) → (value_of k xs ≡ Some old → sum_by (entry_size form) (put k v xs) + form.size_of old ≡ sum_by (entry_size form) xs + form.size_of v) → match_ordering o None (Some x.value) (value_of k xs) ≡ Some old
        → sum_by (entry_size form) (match_ordering o (entry_of k v ∷ x ∷ xs) (entry_of x.key v ∷ xs) (x ∷ put k v xs)) + form.size_of old ≡ sum_by (entry_size form) (x ∷ xs) + form.size_of v
    by Less rest at = absurd (none-some old at)
    by Equal rest at =
        let same = ap form.size_of (same_Some x.value old at) in
        omega (arith, same, sum_by-cons (entry_size form) (entry_of x.key v) xs, sum_by-cons (entry_size form) x xs)
    by Greater rest at = let more = rest at in omega (arith, more, sum_by-cons (entry_size form) x (put k v xs), sum_by-cons (entry_size form) x xs)

  pub size-new : (k : List ℕ) (v : V) (xs : List (KeyedEntry V)) → value_of k xs ≡ None → sum_by (entry_size form) (put k v xs) ≡ sum_by (entry_size form) xs + entry_size form (entry_of k v)
  size-new k v [] at = omega (arith, sum_by-cons (entry_size form) (entry_of k v) [])
  size-new k v (x ∷ xs) at = by (key_cmp k x.key) (size-new k v xs) at where
    by : (o : Ordering) → (value_of k xs ≡ None → sum_by (entry_size form) (put k v xs) ≡ sum_by (entry_size form) xs + entry_size form (entry_of k v)) → match_ordering o None (Some x.value) (value_of k xs) ≡ None
        → sum_by (entry_size form) (match_ordering o (entry_of k v ∷ x ∷ xs) (entry_of x.key v ∷ xs) (x ∷ put k v xs)) ≡ sum_by (entry_size form) (x ∷ xs) + entry_size form (entry_of k v)
    by Less rest at = omega (arith, sum_by-cons (entry_size form) (entry_of k v) (x ∷ xs))
    by Equal rest at = absurd (none-some x.value (sym at))
    by Greater rest at = let more = rest at in omega (arith, more, sum_by-cons (entry_size form) x (put k v xs), sum_by-cons (entry_size form) x xs)

  pub few_entries : (s : List (KeyedEntry V)) → length s ≤ sum_by (entry_size form) s
  few_entries [] = omega arith
  few_entries (e ∷ s) = let rest = few_entries s in omega (arith, rest, sum_by-cons (entry_size form) e s)

  pub count_of : (s : KeyedState V) → IsState form s → length s.entries ≤ 4294967295
  count_of s is = let fits : state_size form s.entries ≤ STATE = is.fits in omega (arith, few_entries s.entries, fits)

  module _ (laws : FormLaws form) where
    pub length_entry : (e : KeyedEntry V) → length (entry_bytes form e) ≡ entry_size form e
    length_entry e =
        let size = laws.sized e.value in
        omega (arith, length-append (key_bytes e.key) (form.bytes_of e.value), length-append (big_bytes 1 (length e.key)) e.key, size)

    length-entries : (s : List (KeyedEntry V)) → length (flat_map (entry_bytes form) s) ≡ sum_by (entry_size form) s
    length-entries [] = refl
    length-entries (e ∷ s) = let rest = length-entries s in omega (arith, length-append (entry_bytes form e) (flat_map (entry_bytes form) s), length_entry e, rest, sum_by-cons (entry_size form) e s)

    -- a state is encoded in as many bytes as it is counted
    pub encoded_size : (s : KeyedState V) → length (state_encode form s) ≡ state_size form s.entries
    encoded_size s =
        omega (arith, length-append (token_bytes s.last) (big_bytes 4 (length s.entries) ++ flat_map (entry_bytes form) s.entries), length-token s.last, length-append (big_bytes 4 (length s.entries)) (flat_map (entry_bytes form) s.entries), length-entries s.entries)

    -- ---- reading

    record IsShortEntry (e : KeyedEntry V) : Type 0 where
      key : IsKey e.key
      value : form.IsShort e.value

    entry_part : IsPart (entry_at form) (entry_bytes form) IsShortEntry
    unfolding entry_at
    entry_part = two_parts key_part laws.part entry_of (λ e. e.key) (λ e. e.value) IsShortEntry
        (λ e. refl) (λ key value p q. (refl, record { key = p; value = q })) (λ e is. (is.key, is.value))

    -- the states that can be spelled
    record IsSpelled (s : KeyedState V) : Type 0 where
      last : IsToken s.last
      entries : AllByRecursion IsShortEntry s.entries
      few : length s.entries ≤ 4294967295

    state_part : IsPart (state_at form) (state_encode form) IsSpelled
    unfolding state_at
    state_part = two_parts token_part (counted_part entry_part 4 0 4294967295 wide4 (omega arith)) state_of (λ s. s.last) (λ s. s.entries) IsSpelled
        (λ s. refl) (λ last entries p q. (refl, record { last = p; entries = q.1; few = q.0.1 })) (λ s is. (is.last, ((omega arith, is.few), is.entries)))

    -- ---- what is tested

    up-found : (last : Token) (es : List (KeyedEntry V)) → are_up_to form last es ≡ true → AreUpTo form last es
    up-found last [] e = tt
    up-found last (x ∷ es) e = let both = and_parts (is_up_to (form.token_of x.value) last) (are_up_to form last es) e in (both.0, up-found last es both.1)

    up-tested : (last : Token) (es : List (KeyedEntry V)) → AreUpTo form last es → are_up_to form last es ≡ true
    up-tested last [] up = refl
    up-tested last (x ∷ es) up = rw (up.0, up-tested last es up.1) refl

    short-entries : (es : List (KeyedEntry V)) → AllByRecursion (IsEntry form) es → sum_by (entry_size form) es ≤ STATE → AllByRecursion IsShortEntry es
    short-entries [] all fits = tt
    short-entries (e ∷ es) all fits =
        let both = sum_by-cons (entry_size form) e es in
        (record { key = all.0.key; value = laws.short e.value all.0.value (omega (arith, fits, both)) }, short-entries es all.1 (omega (arith, fits, both)))

    plain-entries : (es : List (KeyedEntry V)) → AllByRecursion IsShortEntry es → AllByRecursion (IsEntry form) es
    plain-entries [] all = tt
    plain-entries (e ∷ es) all = (record { key = all.0.key; value = laws.plain e.value all.0.value }, plain-entries es all.1)

    -- ---- the encoding

    abbrev passes : List ℕ → KeyedState V × List ℕ → Bool
    passes bytes p = eqb (length p.1) 0 && (leb (length bytes) STATE && (rises p.0.entries && are_up_to form p.0.last p.0.entries))

    pub record Decoded (bytes : List ℕ) (s : KeyedState V) : Type 0 where
      pub is : IsState form s
      pub spelled : state_encode form s ≡ bytes

    pub decoded : (bytes : List ℕ) (s : KeyedState V) → state_decode form bytes ≡ Some s → Decoded bytes s
    unfolding state_decode
    decoded bytes s e =
        let a = bind_some (state_at form bytes) (λ p. cond (passes bytes p) (Some p.0) None) s e in
        let t = cond_some (passes bytes a.0) a.0.0 s a.2 in
        let tests = and_parts (eqb (length a.0.1) 0) (leb (length bytes) STATE && (rises a.0.0.entries && are_up_to form a.0.0.last a.0.0.entries)) t.0 in
        let more = and_parts (leb (length bytes) STATE) (rises a.0.0.entries && are_up_to form a.0.0.last a.0.0.entries) tests.1 in
        let order = and_parts (rises a.0.0.entries) (are_up_to form a.0.0.last a.0.0.entries) more.1 in
        let nothing : a.0.1 ≡ [] = nil_from_length a.0.1 (eqb-true _ _ tests.0) in
        let u = state_part.takes bytes a.0.0 a.0.1 a.1 in
        let whole : bytes ≡ state_encode form a.0.0 = u.0 ∙ ap (λ (r : List ℕ). state_encode form a.0.0 ++ r) nothing ∙ append-nil (state_encode form a.0.0) in
        let few : length bytes ≤ STATE = leb-true _ _ more.0 in
        let same : length bytes ≡ length (state_encode form a.0.0) = ap length whole in
        let made : Decoded bytes a.0.0 = record {
          is = record { last = u.1.last; entries = plain-entries a.0.0.entries u.1.entries; tokens = up-found a.0.0.last a.0.0.entries order.1; rises = rises-found a.0.0.entries order.0; fits = omega (arith, few, same, encoded_size a.0.0) };
          spelled = sym whole;
        } in
        subst (λ (x : KeyedState V). Decoded bytes x) t.1 made

    pub decoded_is_state : (bytes : List ℕ) (s : KeyedState V) → state_decode form bytes ≡ Some s → IsState form s
    decoded_is_state bytes s e = (decoded bytes s e).is

    pub decoded_is_encoded : (bytes : List ℕ) (s : KeyedState V) → state_decode form bytes ≡ Some s → state_encode form s ≡ bytes
    decoded_is_encoded bytes s e = (decoded bytes s e).spelled

    pub encoded_short : (s : KeyedState V) → IsState form s → length (state_encode form s) ≤ STATE
    encoded_short s is = omega (arith, encoded_size s, is.fits)

    pub encoded_is_decoded : (s : KeyedState V) → IsState form s → state_decode form (state_encode form s) ≡ Some s
    unfolding state_decode
    encoded_is_decoded s is =
        let fits : state_size form s.entries ≤ STATE = is.fits in
        let spelled : IsSpelled s = record { last = is.last; entries = short-entries s.entries is.entries (omega (arith, fits)); few = count_of s is } in
        let again : state_at form (state_encode form s) ≡ Some (s, []) = ap (state_at form) (sym (append-nil (state_encode form s))) ∙ state_part.again s [] spelled in
        rw (again, le-leb (length (state_encode form s)) STATE (encoded_short s is), rises-tested s.entries is.rises, up-tested s.last s.entries is.tokens) refl

  -- ---- which states there are

  pub none_is_state : IsState form (state_of least_token [])
  none_is_state = record {
    last = record { view = record { counter = omega arith; counter_fits = omega arith; creator = record { node = omega arith; node_fits = omega arith; incarnation = omega arith; incarnation_fits = omega arith } }; count = omega arith };
    entries = tt;
    tokens = tt;
    rises = tt;
    fits = omega arith;
  }

  -- what a key has is a value, and its token is not above the last
  pub value-is : (k : List ℕ) (v : V) (s : KeyedState V) → IsState form s → value_of k s.entries ≡ Some v → form.IsValue v
  value-is k v s is at = holds-of (IsEntry form) form.IsValue (λ x one. one.value) k s.entries v is.entries at

  pub token-up : (k : List ℕ) (v : V) (s : KeyedState V) → IsState form s → value_of k s.entries ≡ Some v → is_up_to (form.token_of v) s.last ≡ true
  token-up k v s is at = holds-of (λ x. is_up_to (form.token_of x.value) s.last ≡ true) (λ y. is_up_to (form.token_of y) s.last ≡ true) (λ x up. up) k s.entries v is.tokens at

  -- the tokens of entries are up to a greater one too
  pub all-up : (a b : Token) (es : List (KeyedEntry V)) → AreUpTo form a es → is_up_to a b ≡ true → AreUpTo form b es
  all-up a b [] up more = tt
  all-up a b (x ∷ es) up more = (up-trans (form.token_of x.value) a b up.0 more, all-up a b es up.1 more)

  -- a state with a value for a key, and a last token that is no lower
  pub put_is_state : (k : List ℕ) (v : V) (last : Token) (s : KeyedState V) → IsState form s → IsKey k → form.IsValue v → IsToken last → is_up_to s.last last ≡ true → is_up_to (form.token_of v) last ≡ true
      → state_size form (put k v s.entries) ≤ STATE → IsState form (state_of last (put k v s.entries))
  put_is_state k v last s is key value token up own small = record {
    last = token;
    entries = all-put (IsEntry form) k v s.entries is.entries (record { key = key; value = value }) (λ x one. record { key = one.key; value = value });
    tokens = all-put (λ e. is_up_to (form.token_of e.value) last ≡ true) k v s.entries (all-up s.last last s.entries is.tokens up) own (λ x one. own);
    rises = rises-put k v s.entries is.rises;
    fits = small;
  }

  -- and one without a key's
  pub without_is_state : (k : List ℕ) (last : Token) (s : KeyedState V) → IsState form s → IsToken last → is_up_to s.last last ≡ true → IsState form (state_of last (without k s.entries))
  without_is_state k last s is token up =
      let fits : state_size form s.entries ≤ STATE = is.fits in
      record {
        last = token;
        entries = all-without (IsEntry form) k s.entries is.entries;
        tokens = all-without (λ e. is_up_to (form.token_of e.value) last ≡ true) k s.entries (all-up s.last last s.entries is.tokens up);
        rises = rises-without k s.entries is.rises;
        fits = omega (arith, fits, size-without k s.entries);
      }
