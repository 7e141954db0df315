-- Writing rows one after the other, as a loop does.
use Rattle.std.proofs.Common.{◌≡◌, ℕ, ◌+◌, List}
use Rattle.std.proofs.Common.{add-one}
use Rattle.std.specs.List.{flat_map}
use Rattle.mp4_codec.specs.Bytes.{Appends}
use Rattle.mp4_codec.specs.PutLaws.{◌then◌, nothing_added}
use Rattle.mp4_moof.specs.declared.rows.Row.{Row}
use Rattle.mp4_moof.specs.declared.rows.Columns.{Columns}
use Rattle.mp4_moof.specs.Rows.{row, row_of, rows}
use Rattle.mp4_moof.specs.RowLaws.{rows-more}

-- the bytes of one row more
pub one_row_more : (c : Columns) (k : ℕ) (r : Row) (old mid new : List ℕ) → r ≡ row_of c k
    → Appends old mid (flat_map row (rows c k)) → Appends mid new (row r)
    → Appends old new (flat_map row (rows c (k + 1)))
one_row_more c k r old mid new is so_far own =
    let next : Appends mid new (row (row_of c k)) = rw (← is) own in
    rw (add-one k, rows-more c k) (so_far then next)

pub no_rows_yet : (c : Columns) (old : List ℕ) → Appends old old (flat_map row (rows c 0))
unfolding rows
no_rows_yet c old = nothing_added old
