-- When samples begin (ISO/IEC 14496-12, 8.6.1.2).
use Rattle.std.specs.Prelude.{ℕ, zero, suc, List, take, sum}

-- the decode time of sample k, which counts from 1: the sum of the durations before it
unfoldable pub start_of : List ℕ → ℕ → ℕ
start_of durations zero = 0
start_of durations (suc k) = sum (take k durations)
