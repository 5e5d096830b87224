-- What comes to a member by a call: a packet that was put out before, or none.
use Rattle.std.proofs.Common.{◌≡◌, ℕ, Bool, true, false, ◌&&◌, Option, Some, None, Result, Ok, Err, List, [], ◌∷◌, refl, sym, ap, ◌∙◌, inl, inr}
use Rattle.std.proofs.lemmas.Bool.{eq-eqb}
use Rattle.std.specs.List.{slice_get}
use Rattle.std.specs.Option.{option_and_then}
use Rattle.std.proofs.lemmas.Option.{none-some}
use Rattle.wire_values.specs.declared.error.WireError.{WireError}
use Rattle.wire_values.specs.declared.packet.Packet.{Packet}
use Rattle.wire_values.specs.Posted.{Posted}
use Rattle.wire.specs.Packets.{packet_of}
use Rattle.law_acts.specs.Cores.{Core}
use Rattle.law_acts.specs.Acts.{handed}
use Rattle.law_acts.specs.Steps.{came_of}
use Rattle.step_output.specs.Names.{same_name}
use Rattle.step_output.specs.Outputs.{packet_in}
use Rattle.member.specs.declared.input.Input.{Input}
use Rattle.member.specs.declared.input.Input.TheVariants.{Create, Join, Send, Datagram, Tick, Suspect, MergeHint, Leave}
use Rattle.member.specs.Members.{MemberModel, core_of, came_in, came_at}
use Rattle.law_processes.specs.Deployments.{is_of, MayCome, MayBeHanded}
use Rattle.law_processes.proofs.PostsAreSpelled.{EachSpelled, is-read, post-at, posts_in}

-- what came to a member was put out before, or nothing came
pub record Comes {S : Type 0} (pool : List Posted) (c : Core S) (came : Option Posted) : Type 0 where
  pub which : Option ℕ
  pub from : came ≡ came_of c pool which
  pub none : came ≡ None → which ≡ None

nothing-comes : {S : Type 0} (pool : List Posted) (c : Core S) → Comes pool c None
nothing-comes pool c = record { which = None; from = refl; none = λ e. refl }

-- a name is the same as itself
name-same : (name : List ℕ) → same_name name name ≡ true
name-same [] = refl
name-same (n ∷ name) = ap (λ (b : Bool). b && same_name name name) (eq-eqb n n refl) ∙ name-same name

module _ {S : Type 0} (group : List ℕ) (offered : List (List ℕ)) (m : MemberModel S) (c : Core S) (core : core_of m ≡ Some c) (group_is : m.group ≡ group) where
  comes-by : (k : ℕ) (o came : Option Posted) → came ≡ o → o ≡ came_of c (posts_in offered) (Some k) → Comes (posts_in offered) c came
  comes-by k o None same from = record { which = None; from = refl; none = λ e. refl }
  comes-by k o (Some p) same from = record { which = Some k; from = same ∙ from; none = λ e. absurd (none-some p (sym e)) }

  came-is : (bytes : List ℕ) (p : Posted) → packet_of bytes ≡ Ok (packet_in group p) → came_in m (packet_of bytes) ≡ handed c p
  came-is bytes p e = rw (e, group_is, name-same group, core) refl

  -- one that was put out before
  put-out-comes : (k : ℕ) (bytes : List ℕ) → EachSpelled group offered → slice_get offered k ≡ Some bytes → Comes (posts_in offered) c (came_in m (packet_of bytes))
  put-out-comes k bytes each at =
      let r = is-read group bytes (each k bytes at) in
      comes-by k (handed c r.post) (came_in m (packet_of bytes)) (came-is bytes r.post r.packet)
      (sym (ap (option_and_then (handed c)) (post-at group offered k bytes each at ∙ r.read)))

  -- bytes that spell no packet of the group
  not-of : (r : Result Packet WireError) → is_of group r ≡ false → came_in m r ≡ None
  not-of (Err e) other = refl
  not-of (Ok p) other = rw (group_is, other) refl

  datagram-comes : (bytes : List ℕ) → EachSpelled group offered → MayCome group offered bytes → Comes (posts_in offered) c (came_in m (packet_of bytes))
  datagram-comes bytes each (inl was) = put-out-comes was.0 bytes each was.1
  datagram-comes bytes each (inr other) = rw (not-of (packet_of bytes) other) (nothing-comes (posts_in offered) c)

  -- whatever the input
  pub input-comes : (input : Input) → EachSpelled group offered → MayBeHanded group offered input → Comes (posts_in offered) c (came_at m input)
  input-comes Create each may = nothing-comes (posts_in offered) c
  input-comes (Join contact) each may = nothing-comes (posts_in offered) c
  input-comes (Send payload) each may = nothing-comes (posts_in offered) c
  input-comes (Datagram bytes) each may = datagram-comes bytes.now each may
  input-comes Tick each may = nothing-comes (posts_in offered) c
  input-comes (Suspect q) each may = nothing-comes (posts_in offered) c
  input-comes (MergeHint q) each may = nothing-comes (posts_in offered) c
  input-comes Leave each may = nothing-comes (posts_in offered) c
