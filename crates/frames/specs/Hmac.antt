-- HMAC-SHA-256 (RFC 2104), over the digest of FIPS 180-4.
use Rattle.std.specs.Prelude.{ℕ, ◌-◌, List, ◌++◌, length, map, replicate, nat_le, bit_xor, if◌then◌else◌}
use Rattle.sha2.specs.Sha256.{sha256}

-- a key as one block: a longer one by its digest; zeros fill it up
abbrev pub block_key : List ℕ → List ℕ
block_key key =
    if nat_le (length key) 64 then key ++ replicate (64 - length key) 0 else sha256 key ++ replicate 32 0

-- each byte combined with one
abbrev pub xor_all : ℕ → List ℕ → List ℕ
xor_all byte block = map (λ b. bit_xor b byte) block

abbrev pub inner_pad : List ℕ → List ℕ
inner_pad block = xor_all 0x36 block

abbrev pub outer_pad : List ℕ → List ℕ
outer_pad block = xor_all 0x5c block

-- the tag of a message, under a key of one block
abbrev pub hmac_sha256 : List ℕ → List ℕ → List ℕ
hmac_sha256 block message = sha256 (outer_pad block ++ sha256 (inner_pad block ++ message))
