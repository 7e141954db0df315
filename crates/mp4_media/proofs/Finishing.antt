-- A finished movie is a file of the grammar.
use Rattle.std.proofs.Common.{◌≡◌, ◌⊎◌, inl, inr, ℕ, ◌+◌, ◌-◌, ◌^◌, ◌≤◌, ◌<◌, List, [], ◌∷◌, ◌++◌, length, take, drop}
use Rattle.std.proofs.Common.{Some, None, Result, Ok, refl, sym, ap, subst, ◌∙◌, append_assoc, zero-add, arith, lit<}
use Rattle.std.proofs.Common.{true, suc, map}
use Rattle.std.proofs.lemmas.Bool.{ne_eqb, lt-ltb, le-ltb, cases_lt}
use Rattle.std.proofs.lemmas.List.{append-nil, length-append}
use Rattle.mp4_codec.specs.declared.box_type.BoxType.{BoxType}
use Rattle.mp4_codec.specs.declared.box_type.BoxType.TheVariants.{FtypBox as ftyp, MoovBox as moov, MdatBox as mdat}
use Rattle.mp4_codec.specs.declared.box_type.BoxType.TheVariants.{WideBox as wide}
use Rattle.mp4_codec.specs.BoxType.{box_type, code_of}
use Rattle.mp4_codec.specs.Cause.{Cause}
use Rattle.mp4_codec.specs.Cursor.{Cursor, here}
use Rattle.mp4_codec.specs.Bytes.{number, ◌⧺◌}
use Rattle.mp4_codec.specs.FieldLaws.{length-number}
use Rattle.mp4_codec.specs.Boxes.{box_bytes, all_refusal}
use Rattle.mp4_codec.specs.Framing.{IsEncodable, IsBox, short, long, long_box_bytes, ReadsAsBox}
use Rattle.mp4_codec.specs.FramingLaws.{reads_as_box, length-box_bytes, length-long_box_bytes}
use Rattle.mp4_codec.proofs.HeadLaws.{was_taken}
use Rattle.mp4_codec.specs.WriteLaws.{is_written}
use Rattle.mp4_leaf.specs.declared.ftyp.FtypBox.{FtypBox}
use Rattle.mp4_leaf.specs.Ftyp.{ftyp_of, ftyp_payload, IsCanonicalFtyp}
use Rattle.mp4_leaf.specs.FtypLaws.{ftyp_again}
use Rattle.mp4_boxes.specs.declared.moov.MoovBox.{MoovBox}
use Rattle.mp4_boxes.specs.Moov.{moov_of, moov_payload, moov_refusal, IsCanonicalMoov}
use Rattle.mp4_boxes.specs.MoovLaws.{moov_again}
use Rattle.mp4_mux.specs.Mdat.{mdat_header_of}
use Rattle.mp4_mux.specs.Config.{IsInRangeConfig}
use Rattle.mp4_mux.proofs.MdatLaws.{length-mdat_header_of}
use Rattle.mp4_mux.specs.Chunks.{placed_from}
use Rattle.mp4_mux.specs.TrackHeaders.{PlacedChunk}
use Rattle.mp4_mux.specs.FinishedTrack.{trak_with, trak_for, movie_for}
use Rattle.mp4_mux.specs.Writing.{WriterState, AcceptedTrack, accepted, file_type_of, finished_from, movie_of}
use Rattle.mp4_mux.specs.Writing.{movie_bytes}
use Rattle.mp4_mux.specs.Writing.{data_of, data_place, with_file_type, whole_of, start_cause}
use Rattle.mp4_mux.proofs.StartLaws.{file_type-canonical}
use Rattle.mp4_mux.specs.Parts.{Parts, state_of, IsWriting}
use Rattle.mp4_mux.proofs.PartsLaws.{state-ended, state-config}
use Rattle.mp4_media.specs.FileBoxes.{FileBox, BoxContent, Ftyp, Moov, Skipped}
use Rattle.mp4_media.specs.FileBoxes.{read_as, meaning_of}
use Rattle.mp4_media.specs.FileGrammar.{between, Holds, read, skipped, IsFileBox, no_more, AreFileBoxes, IsFile}
use Rattle.mp4_media.specs.MovieTracks.{id_fault, zero_id}
use Rattle.mp4_media.specs.Finished.{Opens}
use Rattle.mp4_media.proofs.Contents.{meaning-ftyp, meaning-moov}

encodable_ftyp : IsEncodable ftyp
unfolding box_type
encodable_ftyp = record { named = refl; code = lit< tt }

encodable_moov : IsEncodable moov
unfolding box_type
encodable_moov = record { named = refl; code = lit< tt }

encodable_mdat : IsEncodable mdat
unfolding box_type
encodable_mdat = record { named = refl; code = lit< tt }

-- a box is at least 8 bytes longer than its payload
box_bytes-longer : (name : BoxType) (payload box : List ℕ) → IsBox name payload box → 8 + length payload ≤ length box
box_bytes-longer name payload box (short s h e) = rw (e, length-box_bytes name payload) (omega arith)
box_bytes-longer name payload box (long s h e) = rw (e, length-long_box_bytes name payload) (omega arith)

-- a box that is in the bytes of a file
module _ (size : ℕ) (bytes : List ℕ) (name : BoxType) (payload before box after : List ℕ)
    (is : bytes ≡ before ++ (box ++ after)) (boxes : IsBox name payload box)
    (place next : ℕ) (at : place ≡ length before) (to : next ≡ place + length box) (fits : next ≤ size) where
  r : ReadsAsBox name payload box bytes place
  r =
      let there = reads_as_box name payload before box after boxes in
      let here_is = subst (λ (xs : List ℕ). ReadsAsBox name payload box xs (length before)) (sym is) there in
      subst (λ (n : ℕ). ReadsAsBox name payload box bytes n) (sym at) here_is

  from : ℕ
  from = place + r.header

  longer : 8 + length payload ≤ length box
  longer = box_bytes-longer name payload box boxes

  own : next - from ≡ length payload
  unfolding from
  own = omega (arith, r.whole, to)

  payload_is : between bytes from next ≡ payload
  unfolding from
  payload_is =
      let taken = (was_taken (length payload) (here bytes from) (payload, here bytes (place + length box)) r.body).1 in
      ap (λ (n : ℕ). take n (drop from bytes)) own ∙ ap (λ (x : List ℕ × Cursor). x.0) taken

  inside : next ≤ length bytes
  inside = omega (arith, ap length is, length-append before (box ++ after), length-append box after, at, to)

  box_of_file : (content : BoxContent) → Holds bytes name from next content
      → IsFileBox size bytes place next (record { place = place; content = content })
  unfolding from
  box_of_file content h =
      let same : 8 + length payload ≡ next - from + 8 = omega (arith, own) in record {
        name = name;
        from = from;
        begins = record {
          room = omega (arith, longer, fits, to);
          head = r.head ∙ ap (λ (n : ℕ). Ok (record { name = name; size = n }, here bytes from)) same;
          order = omega (arith, r.whole, to);
        };
        fits = omega (arith, own, longer, fits, to);
        place_is = refl;
        holds = h;
      }

  -- a box that is read
  read_box : {A : Type 0} (kind : A → BoxContent) (value : List ℕ → Result A Cause) (x : A)
      → meaning_of name ≡ Some (read_as kind value) → value payload ≡ Ok x
      → IsFileBox size bytes place next (record { place = place; content = kind x })
  read_box kind value x known e =
      box_of_file (kind x) (read (read_as kind value) known inside (rw (payload_is, e) refl))

  -- a box that is skipped
  skipped_box : meaning_of name ≡ None → next < 2 ^ 64
      → IsFileBox size bytes place next (record { place = place; content = Skipped })
  skipped_box unknown small = box_of_file Skipped (skipped unknown small refl)

-- the header of mdat and its data are a box
pub record IsMdat (box : List ℕ) : Type 0 where
  pub payload : List ℕ
  pub boxes : IsBox mdat payload box

large_mdat : (bytes : List ℕ) → 16 + length bytes < 2 ^ 64 → 2 ^ 32 - 1 < 16 + length bytes
    → IsMdat (mdat_header_of (16 + length bytes) ++ bytes)
unfolding mdat_header_of long_box_bytes ◌⧺◌
large_mdat bytes h large = record {
  payload = bytes;
  boxes = long encodable_mdat h (rw (lt-ltb (2 ^ 32 - 1) (16 + length bytes) large) (simp append_assoc));
}

small_mdat : (bytes : List ℕ) → 16 + length bytes ≤ 2 ^ 32 - 1 → IsMdat (mdat_header_of (16 + length bytes) ++ bytes)
unfolding mdat_header_of box_bytes ◌⧺◌
small_mdat bytes small =
    let free : List ℕ = number 4 8 ++ number 4 (code_of wide) in
    let payload : List ℕ = free ++ bytes in
    let size : 8 + length payload ≡ 16 + length bytes = omega (
      arith,
      length-append free bytes,
      length-append (number 4 8) (number 4 (code_of wide)),
      length-number 4 8,
      length-number 4 (code_of wide),
    ) in
    record {
      payload = payload;
      boxes =
          short encodable_mdat (omega (arith, size))
          (rw (le-ltb (2 ^ 32 - 1) (16 + length bytes) small, size) (simp append_assoc));
    }

-- the header of mdat and its data, whatever their length, are a box
pub mdat_header_of-data : (bytes : List ℕ) → 16 + length bytes < 2 ^ 64
    → IsMdat (mdat_header_of (16 + length bytes) ++ bytes)
mdat_header_of-data bytes h = chosen (cases_lt (2 ^ 32 - 1) (16 + length bytes))
  where
    chosen : (2 ^ 32 - 1 < 16 + length bytes) ⊎ (16 + length bytes ≤ 2 ^ 32 - 1)
        → IsMdat (mdat_header_of (16 + length bytes) ++ bytes)
    chosen (inl large) = large_mdat bytes h large
    chosen (inr small) = small_mdat bytes small

unknown_mdat : meaning_of mdat ≡ None
unfolding meaning_of
unknown_mdat = refl

three : (size : ℕ) (bytes : List ℕ) (a b c : FileBox) (p q end : ℕ) → IsFileBox size bytes 0 p a
    → IsFileBox size bytes p q b → IsFileBox size bytes q end c → AreFileBoxes size bytes 0 (a ∷ b ∷ c ∷ []) end
unfolding AreFileBoxes
three size bytes a b c p q end first second third = (p, first, (q, second, (end, third, refl)))

-- the tracks of a movie that is written count from 1
ids_from : (timescale id : ℕ) (ts : List AcceptedTrack) (cs : List PlacedChunk)
    → all_refusal zero_id (map (trak_for timescale) (finished_from (suc id) ts cs)) ≡ None
unfolding finished_from trak_with
ids_from timescale id [] cs = refl
ids_from timescale id (t ∷ ts) cs =
    let next : suc id + 1 ≡ suc (suc id) = omega arith in
    rw (next, ne_eqb (suc id) 0 (λ e. omega arith)) (ids_from timescale (suc id) ts cs)

numbered : (st : WriterState) → all_refusal zero_id (movie_of st).traks ≡ None
unfolding movie_for
numbered st = ids_from st.config.timescale 0 (accepted st) (placed_from (data_place st) st.chunks)

-- so the ids of its tracks have no fault, where there are no fragments
no_fault : (m : MoovBox) → all_refusal zero_id m.traks ≡ None → id_fault m [] ≡ None
unfolding id_fault
no_fault m none = rw none refl

-- a file type, mdat and a movie, one after the other, are a file
module _ (f : FtypBox) (m : MoovBox) (box : List ℕ) (canonical : IsCanonicalFtyp f) (movie : IsCanonicalMoov m)
    (media : IsMdat box) (ids : all_refusal zero_id m.traks ≡ None) where
  abbrev first : List ℕ
  first = box_bytes ftyp (ftyp_payload f)

  abbrev third : List ℕ
  third = box_bytes moov (moov_payload m)

  abbrev whole : List ℕ
  whole = (first ++ box) ++ third

  pub finished-file : length whole < 2 ^ 64
      → IsFile (length whole) (here whole 0)
      (record { ftyp = f; moov = m; moofs = []; moof_places = []; emsgs = []; size = length whole })
  finished-file fits =
      let end : length whole ≡ length first + length box + length third =
      omega (arith, length-append (first ++ box) third, length-append first box) in
      let p : ℕ = length first in
      let q : ℕ = length first + length box in
      let regrouped : whole ≡ first ++ (box ++ third) = append_assoc first box third in
      let closed : whole ≡ (first ++ box) ++ (third ++ []) =
      ap (λ (xs : List ℕ). (first ++ box) ++ xs) (sym (append-nil third)) in
      let boxes_first : IsBox ftyp (ftyp_payload f) first =
      short encodable_ftyp (is_written (ftyp_payload f) None canonical.written).small refl in
      let boxes_third : IsBox moov (moov_payload m) third =
      short encodable_moov (is_written (moov_payload m) (moov_refusal m) movie.written).small refl in
      let one =
      read_box (length whole) whole ftyp (ftyp_payload f) [] first (box ++ third) regrouped boxes_first 0 p
      refl (sym (zero-add p)) (omega (arith, end)) Ftyp ftyp_of f (meaning-ftyp ftyp refl)
      (ftyp_again f canonical) in
      let two =
      skipped_box (length whole) whole mdat media.payload first box third regrouped media.boxes p q refl refl
      (omega (arith, end)) unknown_mdat (omega (arith, end, fits)) in
      let three_at : q ≡ length (first ++ box) = sym (length-append first box) in
      let last_box =
      read_box (length whole) whole moov (moov_payload m) (first ++ box) third [] closed boxes_third q
      (length whole) three_at end (omega arith) Moov moov_of m (meaning-moov moov refl) (moov_again m movie) in
      record {
        boxes =
            record { place = 0; content = Ftyp f } ∷ record { place = p; content = Skipped } ∷ record
            { place = q; content = Moov m } ∷ [];
        end = length whole;
        are =
            three (length whole) whole (record { place = 0; content = Ftyp f })
            (record { place = p; content = Skipped }) (record { place = q; content = Moov m }) p q
            (length whole) one two last_box;
        ends = no_more (omega arith);
        ftyp = refl;
        moov = refl;
        moofs = refl;
        moof_places = refl;
        emsgs = refl;
        ids = no_fault m ids;
        size_is = omega arith;
      }

-- the bytes of a writer that ended, after nothing, are a file
pub opens : (p : Parts) → IsWriting p → p.ended ≡ true → IsCanonicalMoov (movie_of (state_of p))
    → length p.media.buffer < 2 ^ 64 → Opens (state_of p)
unfolding whole_of with_file_type movie_bytes
opens p h over canonical fits nothing =
    let st : WriterState = state_of p in
    let held : List ℕ = data_of st in
    let ended : st.ended ≡ true = state-ended p ∙ over in
    let file_type : List ℕ = box_bytes ftyp (ftyp_payload (file_type_of st.config)) in
    let movie : List ℕ = box_bytes moov (moov_payload (movie_of st)) in
    let header : List ℕ = mdat_header_of (16 + length held) in
    let bytes : List ℕ = (file_type ++ (header ++ held)) ++ movie in
    let is : whole_of st ≡ bytes =
    rw ended (ap (λ (xs : List ℕ). ((xs ++ file_type) ++ (header ++ held)) ++ movie) nothing) in
    let few : length bytes < 2 ^ 64 = rw (← is, ← h.whole) fits in
    let room : 16 + length held < 2 ^ 64 =
    omega (
      arith,
      few,
      length-append (file_type ++ (header ++ held)) movie,
      length-append file_type (header ++ held),
      length-append header held,
      length-mdat_header_of (16 + length held),
    ) in
    let media : IsMdat (header ++ held) = mdat_header_of-data held room in
    let config : st.config ≡ p.config = state-config p in
    let opened =
    finished-file (file_type_of st.config) (movie_of st) (header ++ held)
    (file_type-canonical st.config (subst IsInRangeConfig (sym config) h.in_range) (ap start_cause config ∙ h.begun))
    canonical media (numbered st) few in
    subst (λ (xs : List ℕ). IsFile (length xs) (here xs 0)
    (record {
      ftyp = file_type_of st.config;
      moov = movie_of st;
      moofs = [];
      moof_places = [];
      emsgs = [];
      size = length xs;
    })) (sym is) opened
