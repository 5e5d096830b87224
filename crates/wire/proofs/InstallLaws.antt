-- The laws of a report with its flag, and of an install.
use Rattle.std.proofs.Common.{◌≡◌, ℕ, ◌+◌, ◌≤◌, true, cond, leb, eqb, ◌&&◌, List, [], ◌++◌, length, Option, Some, None, Ok, refl, sym, ap, subst, ◌∙◌, append_assoc, arith, inl, inr}
use Rattle.std.specs.Prelude.{IfSome}
use Rattle.std.specs.List.{flat_map, AllByRecursion}
use Rattle.std.specs.Option.{option_map_or}
use Rattle.std.proofs.lemmas.Bool.{leb-true, le-leb, eqb-true, and_parts}
use Rattle.std.proofs.lemmas.List.{nil_from_length}
use Rattle.byteorder.specs.Endian.{big_bytes}
use Rattle.address.specs.Ids.{Address, ViewId}
use Rattle.address.specs.declared.limits.TheConstants.{GREATEST_NUMBER, MEMBERS, WINDOW}
use Rattle.view.specs.Members.{View}
use Rattle.wire_values.specs.declared.error.WireError.TheVariants.{Length, Value}
use Rattle.wire_values.specs.Values.{Entry, Report, Install, nothing_reported}
use Rattle.wire_values.specs.declared.values.state.GivenState.{GivenState}
use Rattle.wire_values.specs.Reading.{◌>>=◌, number_at, list_at}
use Rattle.wire_values.specs.Fields.{IsAddress, IsViewId, IsEntry, IsPlaced, address_bytes, number_bytes, entry_bytes, entry_at}
use Rattle.wire_values.specs.Lists.{IsReport, IsInstall, IsGiven, is_filled, is_nothing, is_report, filled_bytes, report_bytes, filled_at, report_at, is_in_order, is_install, addresses_bytes, view_bytes, items_bytes, state_bytes, given_bytes, install_bytes, IsView, view_at, together_at, items_count_at, state_at, given_at, install_at}
use Rattle.big_endian.specs.Spelled.{IsBytes}
use Rattle.big_endian.proofs.Bytes.{wide1, wide8}
use Rattle.wire_values.proofs.FieldLaws.{bind_ok, ok_is, along, back, Takes, Takes-then, IsPart, entry_part, number_takes, number_again, eight_again}
use Rattle.wire.proofs.ChunkLaws.{state_part}
use Rattle.wire.proofs.FlagLaws.{chosen, flag_one}
use Rattle.wire_values.proofs.ListLaws.{list_takes, list_again}
use Rattle.wire_values.proofs.MemberLaws.{view_part, Ordered, together_take, together_again}
use Rattle.wire.proofs.ReportLaws.{Filled, filled-rules, rules-filled, filled_takes, filled_again, items_count_takes, items_count_again}

-- ---- reports

filled_report : (bytes : List ℕ) (flag : ℕ) (after : List ℕ) (r : Report) (rest : List ℕ) → flag ≡ 1 → Takes bytes (big_bytes 1 flag) after
    → (v : ViewId) × (r.previous ≡ Some v) × Takes after (filled_bytes v r) rest × IsViewId v × AllByRecursion IsPlaced r.held × Filled r → Takes bytes (report_bytes r) rest × IsReport r
filled_report bytes flag after r rest one t f =
    let flagged : Takes bytes (big_bytes 1 1) after = subst (λ (n : ℕ). Takes bytes (big_bytes 1 n) after) one t in
    let all = Takes-then bytes (big_bytes 1 1) after (filled_bytes f.0 r) rest flagged f.2 in (
      subst (λ (o : Option ViewId). Takes bytes (option_map_or (λ v. big_bytes 1 1 ++ filled_bytes v r) o (big_bytes 1 0)) rest) (sym f.1) all,
      record {
        previous = subst (λ (o : Option ViewId). IfSome o IsViewId) (sym f.1) f.3;
        entries = f.4;
        rules = subst (λ (o : Option ViewId). option_map_or (λ _. is_filled r) o (is_nothing r) ≡ true) (sym f.1) (rules-filled r f.5);
      },
    )

no_entries : (held : List (ℕ × Entry)) → eqb (length held) 0 ≡ true → held ≡ []
no_entries held e = nil_from_length held (eqb-true _ _ e)

-- the report of no view, and one of a view
pub none_fits : (r : Report) → r.previous ≡ None → is_report r ≡ true → IsReport r
none_fits r named rules =
    let nothing : is_nothing r ≡ true = subst (λ (o : Option ViewId). option_map_or (λ _. is_filled r) o (is_nothing r) ≡ true) named rules in
    let t = and_parts (eqb r.stable 0 && eqb r.delivered 0) (eqb (length r.held) 0) nothing in
    record {
      previous = subst (λ (o : Option ViewId). IfSome o IsViewId) (sym named) tt;
      entries = subst (λ (h : List (ℕ × Entry)). AllByRecursion IsPlaced h) (sym (no_entries r.held t.1)) tt;
      rules = rules;
    }

pub some_fits : (v : ViewId) (r : Report) → r.previous ≡ Some v → IsViewId v → AllByRecursion IsPlaced r.held → is_report r ≡ true → IsReport r
some_fits v r named is placed rules = record { previous = subst (λ (o : Option ViewId). IfSome o IsViewId) (sym named) is; entries = placed; rules = rules }

none_again : (r : Report) (rest : List ℕ) → r.previous ≡ None → is_report r ≡ true → report_at (report_bytes r ++ rest) ≡ Ok (r, rest)
unfolding report_at
none_again r rest named rules =
    let nothing : is_nothing r ≡ true = subst (λ (o : Option ViewId). option_map_or (λ _. is_filled r) o (is_nothing r) ≡ true) named rules in
    let t = and_parts (eqb r.stable 0 && eqb r.delivered 0) (eqb (length r.held) 0) nothing in
    let u = and_parts (eqb r.stable 0) (eqb r.delivered 0) t.0 in
    let text : report_bytes r ≡ big_bytes 1 0 = ap (λ (o : Option ViewId). option_map_or (λ v. big_bytes 1 1 ++ filled_bytes v r) o (big_bytes 1 0)) named in
    let is : nothing_reported ≡ r =
    ap (λ (o : Option ViewId). record { previous = o; stable = 0; delivered = 0; held = [] }) (sym named)
    ∙ ap (λ (n : ℕ). record { previous = r.previous; stable = n; delivered = 0; held = [] }) (sym (eqb-true _ _ u.0))
    ∙ ap (λ (n : ℕ). record { previous = r.previous; stable = r.stable; delivered = n; held = [] }) (sym (eqb-true _ _ u.1))
    ∙ ap (λ (h : List (ℕ × Entry)). record { previous = r.previous; stable = r.stable; delivered = r.delivered; held = h }) (sym (no_entries r.held t.1)) in
    ap (λ (x : List ℕ). report_at (x ++ rest)) text
    ∙ rw (number_again 1 0 1 Value 0 rest (omega arith) (omega arith) (omega arith)) (ap (λ (x : Report). Ok (x, rest)) is)

some_again : (v : ViewId) (r : Report) (rest : List ℕ) → r.previous ≡ Some v → IsViewId v → IsReport r → report_at (report_bytes r ++ rest) ≡ Ok (r, rest)
unfolding report_at
some_again v r rest named is fits =
    let rules : is_filled r ≡ true = subst (λ (o : Option ViewId). option_map_or (λ _. is_filled r) o (is_nothing r) ≡ true) named fits.rules in
    let text : report_bytes r ≡ big_bytes 1 1 ++ filled_bytes v r = ap (λ (o : Option ViewId). option_map_or (λ v. big_bytes 1 1 ++ filled_bytes v r) o (big_bytes 1 0)) named in
    ap (λ (x : List ℕ). report_at (x ++ rest)) text
    ∙ ap report_at (append_assoc (big_bytes 1 1) (filled_bytes v r) rest)
    ∙ rw (number_again 1 0 1 Value 1 (filled_bytes v r ++ rest) (omega arith) (omega arith) (omega arith)) (filled_again v r rest named is fits.entries (filled-rules r rules))

report_takes : (bytes : List ℕ) (r : Report) (rest : List ℕ) → IsBytes bytes → report_at bytes ≡ Ok (r, rest) → Takes bytes (report_bytes r) rest × IsReport r
unfolding report_at
report_takes bytes r rest fits e =
    let a = bind_ok (number_at 1 0 1 Value bytes) (λ flag. cond (eqb flag.0 0) (Ok (nothing_reported, flag.1)) (filled_at flag.1)) (r, rest) e in
    let t = number_takes 1 wide1 0 1 Value bytes a.0.0 a.0.1 fits a.1 in
    elim (chosen (eqb a.0.0 0) (Ok (nothing_reported, a.0.1)) (filled_at a.0.1) (r, rest) a.2) [
      | inl none ↦
          let zero_flag : a.0.0 ≡ 0 = eqb-true _ _ none.0 in
          subst (λ (p : Report × List ℕ). Takes bytes (report_bytes p.0) p.1 × IsReport p.0) (ok_is (nothing_reported, a.0.1) (r, rest) none.1)
          (subst (λ (n : ℕ). Takes bytes (big_bytes 1 n) a.0.1) zero_flag t.0, record { previous = tt; entries = tt; rules = refl })
      | inr some ↦ filled_report bytes a.0.0 a.0.1 r rest (flag_one a.0.0 t.2 some.0) t.0 (filled_takes a.0.1 r rest t.0.rest_fits some.1)
    ]

report_again : (r : Report) (rest : List ℕ) → IsReport r → report_at (report_bytes r ++ rest) ≡ Ok (r, rest)
report_again r rest fits = report_named r.previous refl fits.previous where
  report_named : (o : Option ViewId) → r.previous ≡ o → IfSome o IsViewId → report_at (report_bytes r ++ rest) ≡ Ok (r, rest)
  report_named None named is = none_again r rest named fits.rules
  report_named (Some v) named is = some_again v r rest named is fits

pub report_part : IsPart report_at report_bytes IsReport
report_part = record { takes = report_takes; again = report_again }

-- ---- installs

-- what an install keeps to
pub record Placed (i : Install) : Type 0 where
  pub some : 1 ≤ length i.together
  pub few : length i.together ≤ MEMBERS
  pub ordered : is_in_order i.together i.view.members ≡ true
  pub near : length i.items ≤ WINDOW
  pub small : i.base + length i.items ≤ GREATEST_NUMBER

pub placed-rules : (i : Install) → is_install i ≡ true → Placed i
placed-rules i e =
    let a = leb 1 (length i.together) in
    let b = leb (length i.together) MEMBERS in
    let c = is_in_order i.together i.view.members in
    let d = leb (length i.items) WINDOW in
    let f = leb (i.base + length i.items) GREATEST_NUMBER in
    let t = and_parts (((a && b) && c) && d) f e in
    let u = and_parts ((a && b) && c) d t.0 in
    let v = and_parts (a && b) c u.0 in
    let w = and_parts a b v.0 in
    record { some = leb-true _ _ w.0; few = leb-true _ _ w.1; ordered = v.1; near = leb-true _ _ u.1; small = leb-true _ _ t.1 }

pub rules-placed : (i : Install) → Placed i → is_install i ≡ true
rules-placed i p = rw (le-leb _ _ p.some, le-leb _ _ p.few, p.ordered, le-leb _ _ p.near, le-leb _ _ p.small) refl

-- the part of an install that is given, behind a view and those who go together
record Given (view : View) (together : List Address) (bytes : List ℕ) (i : Install) (rest : List ℕ) : Type 0 where
  same_view : i.view ≡ view
  same_together : i.together ≡ together
  takes : Takes bytes (given_bytes i) rest
  items : AllByRecursion IsEntry i.items
  near : length i.items ≤ WINDOW
  small : i.base + length i.items ≤ GREATEST_NUMBER
  state : IsGiven i.state

abbrev install_of : View → List Address → ℕ → List Entry → GivenState → Install
install_of view together base items state = record { view = view; together = together; base = base; items = items; state = state }

given_of : (view : View) (together : List Address) (bytes : List ℕ) (base : ℕ) (b1 : List ℕ) (n : ℕ) (b2 : List ℕ) (items : List Entry) (b3 : List ℕ) (state : GivenState) (b4 : List ℕ)
    → Takes bytes (number_bytes base) b1 → Takes b1 (big_bytes 1 n) b2 → (n ≤ WINDOW) → (base + n ≤ GREATEST_NUMBER) → Takes b2 (flat_map entry_bytes items) b3 → (length items ≡ n) → AllByRecursion IsEntry items → Takes b3 (state_bytes state) b4 → IsGiven state
    → Given view together bytes (install_of view together base items state) b4
given_of view together bytes base b1 n b2 items b3 state b4 t u near small v count fitting w is =
    let counted : Takes b1 (items_bytes items) b3 = back (λ (k : ℕ). Takes b1 (big_bytes 1 k ++ flat_map entry_bytes items) b3) (length items) n count (Takes-then b1 (big_bytes 1 n) b2 (flat_map entry_bytes items) b3 u v) in
    let one = Takes-then bytes (number_bytes base) b1 (items_bytes items) b3 t counted in
    record {
      same_view = refl;
      same_together = refl;
      takes = Takes-then bytes (number_bytes base ++ items_bytes items) b3 (state_bytes state) b4 one w;
      items = fitting;
      near = omega arith;
      small = omega arith;
      state = is;
    }

given_takes : (view : View) (together : List Address) (bytes : List ℕ) (i : Install) (rest : List ℕ) → IsBytes bytes → given_at view together bytes ≡ Ok (i, rest) → Given view together bytes i rest
unfolding given_at
given_takes view together bytes i rest fits e =
    let d = bind_ok (number_at 8 0 GREATEST_NUMBER Value bytes) (λ base. items_count_at base.0 base.1 >>= λ count. list_at entry_at count.0 count.1 >>= λ items. state_at items.1 >>= λ state. Ok (install_of view together base.0 items.0 state.0, state.1)) (i, rest) e in
    let f = bind_ok (items_count_at d.0.0 d.0.1) (λ count. list_at entry_at count.0 count.1 >>= λ items. state_at items.1 >>= λ state. Ok (install_of view together d.0.0 items.0 state.0, state.1)) (i, rest) d.2 in
    let g = bind_ok (list_at entry_at f.0.0 f.0.1) (λ items. state_at items.1 >>= λ state. Ok (install_of view together d.0.0 items.0 state.0, state.1)) (i, rest) f.2 in
    let h = bind_ok (state_at g.0.1) (λ state. Ok (install_of view together d.0.0 g.0.0 state.0, state.1)) (i, rest) g.2 in
    let w = number_takes 8 wide8 0 GREATEST_NUMBER Value bytes d.0.0 d.0.1 fits d.1 in
    let x = items_count_takes d.0.0 d.0.1 f.0.0 f.0.1 w.0.rest_fits f.1 in
    let y = list_takes entry_at entry_bytes IsEntry entry_part f.0.0 f.0.1 g.0.0 g.0.1 x.0.rest_fits g.1 in
    let z = state_part.takes g.0.1 h.0.0 h.0.1 y.0.rest_fits h.1 in
    along (λ (p : Install × List ℕ). Given view together bytes p.0 p.1) (install_of view together d.0.0 g.0.0 h.0.0, h.0.1) (i, rest) (ok_is (install_of view together d.0.0 g.0.0 h.0.0, h.0.1) (i, rest) h.2)
    (given_of view together bytes d.0.0 d.0.1 f.0.0 f.0.1 g.0.0 g.0.1 h.0.0 h.0.1 w.0 x.0 x.1 x.2 y.0 y.1 y.2 z.0 z.1)

install_of_parts : (bytes : List ℕ) (view : View) (b1 : List ℕ) (n : ℕ) (b2 : List ℕ) (together : List Address) (b3 : List ℕ) (i : Install) (b4 : List ℕ)
    → Takes bytes (view_bytes view) b1 → IsView view → Takes b1 (big_bytes 1 n) b2 → (1 ≤ n) → (n ≤ MEMBERS) → Ordered view.members [] n b2 (together, b3) → Given view together b3 i b4
    → Takes bytes (install_bytes i) b4 × IsInstall i
install_of_parts bytes view b1 n b2 together b3 i b4 t is u some few o g =
    let new = o.listed.new in
    let whole : i.together ≡ new = g.same_together ∙ o.listed.whole in
    let len : length i.together ≡ n = ap length whole ∙ o.listed.count in
    let listed : Takes b2 (flat_map address_bytes i.together) b3 = back (λ (m : List Address). Takes b2 (flat_map address_bytes m) b3) i.together new whole o.listed.takes in
    let sized : Takes b1 (addresses_bytes i.together) b3 = back (λ (k : ℕ). Takes b1 (big_bytes 1 k ++ flat_map address_bytes i.together) b3) (length i.together) n len (Takes-then b1 (big_bytes 1 n) b2 (flat_map address_bytes i.together) b3 u listed) in
    let viewed : Takes bytes (view_bytes i.view) b1 = back (λ (v : View). Takes bytes (view_bytes v) b1) i.view view g.same_view t in
    let one = Takes-then bytes (view_bytes i.view) b1 (addresses_bytes i.together) b3 viewed sized in
    let ordered : is_in_order i.together i.view.members ≡ true =
    back (λ (m : List Address). is_in_order m i.view.members ≡ true) i.together new whole (back (λ (v : View). is_in_order new v.members ≡ true) i.view view g.same_view o.ordered) in
    let placed : Placed i = record { some = omega arith; few = omega arith; ordered = ordered; near = g.near; small = g.small } in (
      Takes-then bytes (view_bytes i.view ++ addresses_bytes i.together) b3 (given_bytes i) b4 one g.takes,
      record {
        view = back (λ (v : View). IsView v) i.view view g.same_view is;
        together = back (λ (m : List Address). AllByRecursion IsAddress m) i.together new whole o.listed.fits;
        items = g.items;
        state = g.state;
        rules = rules-placed i placed;
      },
    )

install_takes : (bytes : List ℕ) (i : Install) (rest : List ℕ) → IsBytes bytes → install_at bytes ≡ Ok (i, rest) → Takes bytes (install_bytes i) rest × IsInstall i
unfolding install_at
install_takes bytes i rest fits e =
    let a = bind_ok (view_at bytes) (λ view. number_at 1 1 MEMBERS Length view.1 >>= λ len. together_at len.0 view.0.members [] len.1 >>= λ together. given_at view.0 together.0 together.1) (i, rest) e in
    let b = bind_ok (number_at 1 1 MEMBERS Length a.0.1) (λ len. together_at len.0 a.0.0.members [] len.1 >>= λ together. given_at a.0.0 together.0 together.1) (i, rest) a.2 in
    let c = bind_ok (together_at b.0.0 a.0.0.members [] b.0.1) (λ together. given_at a.0.0 together.0 together.1) (i, rest) b.2 in
    let t = view_part.takes bytes a.0.0 a.0.1 fits a.1 in
    let u = number_takes 1 wide1 1 MEMBERS Length a.0.1 b.0.0 b.0.1 t.0.rest_fits b.1 in
    let o = together_take b.0.0 a.0.0.members [] b.0.1 c.0 u.0.rest_fits c.1 in
    let g = given_takes a.0.0 c.0.0 c.0.1 i rest o.listed.takes.rest_fits c.2 in
    install_of_parts bytes a.0.0 a.0.1 b.0.0 b.0.1 c.0.0 c.0.1 i rest t.0 t.1 u.0 u.1 u.2 o g

given_again : (i : Install) (rest : List ℕ) → IsInstall i → given_at i.view i.together (given_bytes i ++ rest) ≡ Ok (i, rest)
unfolding given_at
given_again i rest fits =
    let p = placed-rules i fits.rules in
    let e6 = state_bytes i.state ++ rest in
    let e5 = flat_map entry_bytes i.items ++ e6 in
    let e4 = big_bytes 1 (length i.items) ++ e5 in
    let regrouped : given_bytes i ++ rest ≡ number_bytes i.base ++ e4 =
    append_assoc (number_bytes i.base ++ items_bytes i.items) (state_bytes i.state) rest
    ∙ append_assoc (number_bytes i.base) (items_bytes i.items) e6
    ∙ ap (λ (x : List ℕ). number_bytes i.base ++ x) (append_assoc (big_bytes 1 (length i.items)) (flat_map entry_bytes i.items) e6) in
    ap (given_at i.view i.together) regrouped
    ∙ rw (
      eight_again 0 GREATEST_NUMBER i.base e4 (omega arith) (omega (arith, p.small)) (omega arith),
      items_count_again i.base (length i.items) e5 p.near p.small,
      list_again entry_at entry_bytes IsEntry entry_part i.items e6 fits.items,
      state_part.again i.state rest fits.state,
    ) refl

install_again : (i : Install) (rest : List ℕ) → IsInstall i → install_at (install_bytes i ++ rest) ≡ Ok (i, rest)
unfolding install_at
install_again i rest fits =
    let p = placed-rules i fits.rules in
    let e3 = given_bytes i ++ rest in
    let e2 = flat_map address_bytes i.together ++ e3 in
    let e1 = big_bytes 1 (length i.together) ++ e2 in
    let regrouped : install_bytes i ++ rest ≡ view_bytes i.view ++ e1 =
    append_assoc (view_bytes i.view ++ addresses_bytes i.together) (given_bytes i) rest
    ∙ append_assoc (view_bytes i.view) (addresses_bytes i.together) e3
    ∙ ap (λ (x : List ℕ). view_bytes i.view ++ x) (append_assoc (big_bytes 1 (length i.together)) (flat_map address_bytes i.together) e3) in
    ap install_at regrouped
    ∙ rw (
      view_part.again i.view e1 fits.view,
      number_again 1 1 MEMBERS Length (length i.together) e2 (omega (arith, p.few)) p.some p.few,
      together_again i.view.members [] i.together e3 fits.together p.ordered,
    ) (given_again i rest fits)

pub install_part : IsPart install_at install_bytes IsInstall
install_part = record { takes = install_takes; again = install_again }
