-- The steps by which a file is opened, one box after the other. What they come to is said by the grammar of files.
use Rattle.std.specs.Prelude.{ℕ, zero, suc, ◌+◌, ◌-◌, ◌^◌, List, [], ◌∷◌, Option, Some, None, Result, Ok, Err, nat_lt}
use Rattle.std.specs.Prelude.{Bool, true, false, nat_le, ◌==◌, if◌then◌else◌}
use Rattle.mp4_codec.specs.declared.box_type.BoxType.{BoxType}
use Rattle.mp4_codec.specs.declared.box_type.BoxType.TheVariants.{FtypBox as ftyp, MoovBox as moov}
use Rattle.mp4_codec.specs.declared.header.BoxHeader.{BoxHeader}
use Rattle.mp4_codec.specs.Cause.{Cause, end_of_data, invalid_data, ◌>>=◌, unless}
use Rattle.mp4_codec.specs.Cursor.{Cursor, moved, header_at}
use Rattle.mp4_codec.specs.Boxes.{box_at}
use Rattle.mp4_codec.specs.Children.{last, needed}
use Rattle.mp4_media.specs.FileBoxes.{FileBox, BoxContent, Skipped}
use Rattle.mp4_leaf.specs.declared.ftyp.FtypBox.{FtypBox}
use Rattle.mp4_boxes.specs.declared.moov.MoovBox.{MoovBox}
use Rattle.mp4_media.specs.declared.opening.TopLevelBoxes.{TopLevelBoxes}
use Rattle.mp4_media.specs.FileBoxes.{meaning_of, ftyp_from, moov_from, moof_from, moof_place_from, emsg_from, ftyps_in}
use Rattle.mp4_media.specs.FileBoxes.{moovs_in, moofs_in, moof_places_in, emsgs_in, later, and_one, OpenedFile}
use Rattle.mp4_media.specs.MovieTracks.{id_fault}

-- so many bytes are skipped, also past the end of the bytes, but not past 64 bits
abbrev pub skip_at : ℕ → Cursor → Result Cursor Cause
skip_at n cursor = if nat_lt (2 ^ 64 - 1) (cursor.position + n) then Err invalid_data else Ok (moved n cursor)

-- the content of a box of this size, whose payload is at the cursor, and the place after it
abbrev pub content_at : Option (List ℕ → Result BoxContent Cause) → ℕ → Cursor → Result (BoxContent × Cursor) Cause
content_at (Some value) size cursor = box_at value size cursor
content_at None size cursor = skip_at (size - 8) cursor >>= λ after. Ok (Skipped, after)

abbrev pub with_content : ℕ → BoxContent × Cursor → Result (Option FileBox × Cursor) Cause
with_content place x = Ok (Some (record { place = place; content = x.0 }), x.1)

-- The box whose header was read at the place, in a file of `size` bytes: none where its end is open, since the file
-- ends there; a size past the file's is refused.
abbrev pub box_after_header : ℕ → Cursor → BoxHeader → Cursor → Result (Option FileBox × Cursor) Cause
box_after_header size place h after =
    if h.size == 0 then Ok (None, place) else
    if nat_lt size h.size then Err invalid_data else
    (content_at (meaning_of h.name) h.size after >>= with_content place.position)

-- The next box of a file of `size` bytes, and the place after it: none at a place that isn't below `size`; a rest of
-- less than a header is refused.
unfoldable pub next_box_at : ℕ → Cursor → Result (Option FileBox × Cursor) Cause
next_box_at size place =
    if nat_le size place.position then Ok (None, place) else
    if nat_lt size (place.position + 8) then Err end_of_data else
    (header_at place >>= λ x. box_after_header size place x.0 x.1)

abbrev pub and_boxes : (Cursor → Result (List FileBox × ℕ) Cause) → Option FileBox × Cursor
    → Result (List FileBox × ℕ) Cause
and_boxes others (None, place) = Ok ([], place.position)
and_boxes others (Some b, place) = others place >>= λ more. Ok (b ∷ more.0, more.1)

-- The boxes of a file from a place on, and the last place. The steps are as many as there are bytes, which is more
-- than enough.
unfoldable pub file_boxes_at : ℕ → ℕ → Cursor → Result (List FileBox × ℕ) Cause
file_boxes_at zero size place = Ok ([], place.position)
file_boxes_at (suc n) size place = next_box_at size place >>= and_boxes (file_boxes_at n size)

-- what counts of these boxes: the last file type and the last movie, all fragments and all event messages
abbrev pub found_of : List FileBox → TopLevelBoxes
found_of boxes = record {
  ftyp = last (ftyps_in boxes);
  moov = last (moovs_in boxes);
  moofs = moofs_in boxes;
  moof_places = moof_places_in boxes;
  emsgs = emsgs_in boxes;
}

-- the same with one box more
abbrev pub with_box : TopLevelBoxes → FileBox → TopLevelBoxes
with_box found b = record {
  ftyp = later (ftyp_from b.content) found.ftyp;
  moov = later (moov_from b.content) found.moov;
  moofs = and_one found.moofs (moof_from b.content);
  moof_places = and_one found.moof_places (moof_place_from b);
  emsgs = and_one found.emsgs (emsg_from b.content);
}

abbrev pub and_content : TopLevelBoxes → ℕ → BoxContent × Cursor → Result (TopLevelBoxes × Cursor) Cause
and_content found place x = Ok (with_box found (record { place = place; content = x.0 }), x.1)

-- what was found with a box more, of this type and this size, which begins at the place and whose payload is at the
-- cursor; and the place after it
abbrev pub with_content_at : BoxType → ℕ → TopLevelBoxes → ℕ → Cursor → Result (TopLevelBoxes × Cursor) Cause
with_content_at name size found place cursor = content_at (meaning_of name) size cursor >>= and_content found place

abbrev pub and_found : TopLevelBoxes → Option FileBox × Cursor → Result (Bool × TopLevelBoxes × Cursor) Cause
and_found found (None, place) = Ok (false, found, place)
and_found found (Some b, after) = Ok (true, with_box found b, after)

-- whether a box is at a place in a file of `size` bytes, what was found with it, and the place after it
abbrev pub with_next_at : ℕ → TopLevelBoxes → Cursor → Result (Bool × TopLevelBoxes × Cursor) Cause
with_next_at size found place = next_box_at size place >>= and_found found

-- what counts of the boxes of a file from a place on, and the last place
unfoldable pub found_at : ℕ → Cursor → Result (TopLevelBoxes × ℕ) Cause
found_at size place = file_boxes_at size size place >>= λ boxes. Ok (found_of boxes.0, boxes.1)

-- what was found, as a file with this file type and this movie, of so many bytes
abbrev pub opened_with : TopLevelBoxes → FtypBox → MoovBox → ℕ → OpenedFile
opened_with found file_type movie size = record {
  ftyp = file_type;
  moov = movie;
  moofs = found.moofs;
  moof_places = found.moof_places;
  emsgs = found.emsgs;
  size = size;
}

-- the file of so many bytes that is opened where this was found
abbrev pub opened_from : TopLevelBoxes → ℕ → Result OpenedFile Cause
opened_from found size = do
  file_type ← needed ftyp found.ftyp
  movie ← needed moov found.moov
  unless (id_fault movie found.moofs) (Ok (opened_with found file_type movie size))

-- the file that is opened from a place on
unfoldable pub opened_at : ℕ → Cursor → Result OpenedFile Cause
opened_at size place = do
  found ← found_at size place
  opened_from found.0 (found.1 - place.position)
