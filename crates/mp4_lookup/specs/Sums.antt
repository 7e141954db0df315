-- What is kept beside a table: running sums of stts, which say for each run how many samples and ticks come before it
-- (ISO/IEC 14496-12, 8.6.1.2), and of sizes.
use Rattle.std.specs.Prelude.{◌≡◌, ℕ, ◌*◌, ◌^◌, ◌<◌, List, sum}
use Rattle.std.specs.List.{All}
use Rattle.mp4_table.specs.declared.stts.SttsEntry.{SttsEntry}
use Rattle.mp4_search.specs.Sums.{CountsBefore, SumsBefore64}

-- samples and ticks before each run, of durations of 32 bits
pub record TimesBefore (runs : List SttsEntry) (samples ticks : List ℕ) : Type 0 where
  pub counts : CountsBefore (λ r. r.sample_count) runs samples
  pub times : SumsBefore64 (λ r. r.sample_count * r.sample_delta) runs ticks
  pub small : All (λ r. r.sample_delta < 2 ^ 32) runs

-- bytes before each sample of sizes of 32 bits, and those of all
pub record SizesBefore (sizes sums : List ℕ) (total : ℕ) : Type 0 where
  pub before : SumsBefore64 (λ s. s) sizes sums
  pub all : total ≡ sum sizes
  pub few : total < 2 ^ 95
  pub small : All (λ s. s < 2 ^ 32) sizes
