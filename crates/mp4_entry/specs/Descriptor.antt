-- Descriptors (ISO/IEC 14496-1, 8.3.3): a tag, a length and a body. What is missing at the end of bytes reads as zeros.
use Rattle.std.specs.Prelude.{ℕ, zero, suc, ◌+◌, ◌*◌, ◌%◌, List, [], ◌∷◌, ◌++◌, length, take, drop, replicate}
use Rattle.std.specs.Prelude.{Option, Some, None, nat_lt, ◌==◌, if◌then◌else◌}
use Rattle.byteorder.specs.Endian.{big_number}
use Rattle.mp4_codec.specs.Bytes.{number, ◌⧺◌}

-- the next number of n bytes, and what is after it; zeros stand for the bytes that are missing
unfoldable pub padded_at : ℕ → List ℕ → ℕ × List ℕ
padded_at n bytes = (big_number n (bytes ++ replicate n 0), drop n bytes)

-- A length in at most n bytes, after others that have said so much of it, and what is after it. A byte has
-- seven bits of the length; it is the last where it is below 128.
unfoldable pub length_at : ℕ → ℕ → List ℕ → ℕ × List ℕ
length_at zero said bytes = (said, bytes)
length_at (suc n) said bytes =
    let byte = padded_at 1 bytes in
    let more = said * 128 + byte.0 % 128 in
    if nat_lt byte.0 128 then (more, byte.1) else length_at n more byte.1

-- the next descriptor, its tag and its body, and what is after it; a body that passes the end is cut there
unfoldable pub descriptor_at : List ℕ → Option ((ℕ × List ℕ) × List ℕ)
descriptor_at [] = None
descriptor_at (tag ∷ bytes) =
    let size = length_at 4 0 bytes in
    Some ((tag, take size.0 size.1), drop size.0 size.1)

abbrev pub first_or : ℕ → (List ℕ → List ℕ) → Option ((ℕ × List ℕ) × List ℕ) → List ℕ
first_or tag others None = []
first_or tag others (Some d) = if d.0.0 == tag then d.0.1 else others d.1

-- the body of the first descriptor of this tag among at most n, or an empty one
unfoldable pub first_among : ℕ → ℕ → List ℕ → List ℕ
first_among zero tag bytes = []
first_among (suc n) tag bytes = first_or tag (first_among n tag) (descriptor_at bytes)

-- the body of the first descriptor of this tag, or an empty one; there are no more descriptors than bytes
unfoldable pub first_of : ℕ → List ℕ → List ℕ
first_of tag bytes = first_among (length bytes) tag bytes

-- a descriptor as it is written, with its length in one byte
unfoldable pub descriptor : ℕ → List ℕ → List ℕ
descriptor tag body = number 1 tag ⧺ number 1 (length body) ⧺ body
