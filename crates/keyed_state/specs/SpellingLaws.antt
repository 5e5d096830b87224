-- What a view id and a token are read from is their spelling, and their spelling is read as them, whatever follows.
use Rattle.std.proofs.Common.{◌≡◌, length, refl, arith}
use Rattle.std.proofs.lemmas.List.{length-append}
use Rattle.byteorder.specs.Endian.{big_bytes}
use Rattle.big_endian.proofs.Bytes.{wide8}
use Rattle.big_endian.specs.Spelled.{address_bytes}
use Rattle.address.specs.Ids.{ViewId}
use Rattle.address.specs.declared.limits.TheConstants.{GREATEST_NUMBER}
use Rattle.big_endian.proofs.PartLaws.{IsPart, number_part, address_part}
use Rattle.keyed_state.specs.declared.token.Token.{Token}
use Rattle.keyed_state.specs.Tokens.{IsViewId, IsToken}
use Rattle.keyed_state.specs.Spelling.{view_id_bytes, view_id_at, token_bytes, token_at}
use Rattle.keyed_state.specs.PartLaws.{two_parts}

pub view_id_part : IsPart view_id_at view_id_bytes IsViewId
unfolding view_id_at
view_id_part = two_parts (number_part 8 1 GREATEST_NUMBER wide8 (omega arith)) address_part (λ counter creator. record { counter = counter; creator = creator }) (λ v. v.counter) (λ v. v.creator) IsViewId
    (λ v. refl) (λ counter creator p q. (refl, record { counter = p.0; counter_fits = p.1; creator = q })) (λ v is. ((is.counter, is.counter_fits), is.creator))

pub token_part : IsPart token_at token_bytes IsToken
unfolding token_at
token_part = two_parts view_id_part (number_part 8 0 GREATEST_NUMBER wide8 (omega arith)) (λ view count. record { view = view; count = count }) (λ t. t.view) (λ t. t.count) IsToken
    (λ t. refl) (λ view count p q. (refl, record { view = p; count = q.1 })) (λ t is. (is.view, (omega arith, is.count)))

-- ---- how long they are

pub length-view_id : (v : ViewId) → length (view_id_bytes v) ≡ 14
length-view_id v = omega (arith, length-append (big_bytes 8 v.counter) (address_bytes v.creator), length-append (big_bytes 2 v.creator.node) (big_bytes 4 v.creator.incarnation))

pub length-token : (t : Token) → length (token_bytes t) ≡ 22
length-token t = omega (arith, length-append (view_id_bytes t.view) (big_bytes 8 t.count), length-view_id t.view)
