-- What a lock is read from is its spelling, and its spelling is read as it, whatever follows.
use Rattle.std.proofs.lemmas.List.{length-append}
use Rattle.std.proofs.Common.{◌≡◌, ◌*◌, List, [], ◌∷◌, ◌++◌, length, refl, arith}
use Rattle.std.specs.List.{flat_map}
use Rattle.byteorder.specs.Endian.{big_bytes}
use Rattle.big_endian.proofs.Bytes.{wide4}
use Rattle.big_endian.specs.Spelled.{address_bytes}
use Rattle.address.specs.Ids.{Address}
use Rattle.big_endian.proofs.PartLaws.{IsPart, address_part}
use Rattle.keyed_state.specs.Spelling.{token_bytes}
use Rattle.keyed_state.specs.PartLaws.{two_parts, both_part, counted_part}
use Rattle.keyed_state.specs.SpellingLaws.{token_part, length-token}
use Rattle.keyed_state.specs.StateLaws.{FormLaws}
use Rattle.lock_table.specs.Forms.{Lock, IsShort, waiters_bytes, lock_bytes, lock_at, lock_form}

lock_part : IsPart lock_at lock_bytes IsShort
unfolding lock_at
lock_part = two_parts address_part (both_part token_part (counted_part address_part 4 0 4294967295 wide4 (omega arith))) (λ holder grant. record { holder = holder; token = grant.0; waiters = grant.1 })
    (λ l. l.holder) (λ l. (l.token, l.waiters)) IsShort (λ l. refl) (λ holder grant p q. (refl, record { is = record { holder = p; token = q.0; waiters = q.1.1 }; few = q.1.0.1 }))
    (λ l short. (short.is.holder, (short.is.token, ((omega arith, short.few), short.is.waiters))))

pub length-addresses : (ps : List Address) → length (flat_map address_bytes ps) ≡ 6 * length ps
length-addresses [] = refl
length-addresses (p ∷ ps) = let rest = length-addresses ps in omega (arith, length-append (address_bytes p) (flat_map address_bytes ps), length-append (big_bytes 2 p.node) (big_bytes 4 p.incarnation), rest)

lock-sized : (l : Lock) → length (lock_bytes l) ≡ lock_form.size_of l
lock-sized l =
    let holder = length-append (big_bytes 2 l.holder.node) (big_bytes 4 l.holder.incarnation) in
    let waiters = length-append (big_bytes 4 (length l.waiters)) (flat_map address_bytes l.waiters) in
    let parts = length-append (token_bytes l.token) (waiters_bytes l.waiters) in
    omega (arith, length-append (address_bytes l.holder) (token_bytes l.token ++ waiters_bytes l.waiters), holder, parts, length-token l.token, waiters, length-addresses l.waiters)

pub lock_laws : FormLaws lock_form
lock_laws = record { sized = lock-sized; part = lock_part; short = λ l is few. record { is = is; few = omega (arith, few) }; plain = λ l short. short.is }
