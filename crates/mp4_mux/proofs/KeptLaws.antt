-- What is known of data in a sink, after each call, is that of the data.
use Rattle.std.proofs.Common.{◌≡◌, ℕ, ◌+◌, ◌-◌, ◌≤◌, List, [], ◌∷◌, ◌++◌, length, take, drop, true, false}
use Rattle.std.proofs.Common.{Option, Some, None, refl, ap, ◌∙◌, arith}
use Rattle.std.specs.Prelude.{slice_set, IfSome}
use Rattle.std.proofs.lemmas.List.{length-append, length-drop, length-take-le}
use Rattle.mp4_source.specs.Sink.{IsAppended}
use Rattle.mp4_samples.specs.Samples.{Sample}
use Rattle.mp4_mux.specs.Chunks.{sample_bytes, is_full}
use Rattle.mp4_mux.specs.Building.{Building, pushed, closed}
use Rattle.mp4_mux.specs.Mdat.{mdat_header_of, with_header, IsFinished}
use Rattle.mp4_mux.proofs.MdatLaws.{length-mdat_header_of}
use Rattle.mp4_mux.specs.Media.{Media, KeptMedia, MayBe, building_at, kept_with_track, media_with, media_with_track}
use Rattle.mp4_mux.specs.Parts.{unwritten, finished_buildings, bytes_at_end, media_at_end}
use Rattle.mp4_mux.specs.Writing.{movie_bytes}

-- bytes that are known after more were added
pub known-append : (before after : Option (List ℕ)) (bytes held : List ℕ) → IfSome before (λ xs. xs ≡ held)
    → IsAppended before after bytes → IfSome after (λ xs. xs ≡ held ++ bytes)
known-append None after bytes held known is = rw is tt
known-append (Some xs) after bytes held known is = rw is (ap (λ (ys : List ℕ). ys ++ bytes) known)

-- and after an end
known-finished : (before after : Option (List ℕ)) (mdat n : ℕ) (tail held : List ℕ)
    → IfSome before (λ xs. xs ≡ held) → IsFinished before after mdat n tail
    → IfSome after (λ xs. xs ≡ with_header held mdat n tail)
known-finished None after mdat n tail held known is = rw is tt
known-finished (Some xs) after mdat n tail held known is =
    rw is (ap (λ (ys : List ℕ). with_header ys mdat n tail) known)

-- a header over bytes that are there changes nothing of how many they are
length-with_header : (bytes : List ℕ) (mdat n : ℕ) (tail : List ℕ) → mdat + 16 ≤ length bytes
    → length (with_header bytes mdat n tail) ≡ length bytes + length tail
length-with_header bytes mdat n tail room =
    omega (
      arith,
      room,
      length-append (take mdat bytes ++ (mdat_header_of n ++ drop (mdat + 16) bytes)) tail,
      length-append (take mdat bytes) (mdat_header_of n ++ drop (mdat + 16) bytes),
      length-append (mdat_header_of n) (drop (mdat + 16) bytes),
      length-mdat_header_of n,
      length-take-le mdat bytes (omega (arith, room)),
      length-drop (mdat + 16) bytes,
    )

module _ (kept : KeptMedia) (media : Media) (h : MayBe kept media) where
  pub may_be-track : (b : Building) → MayBe (kept_with_track kept b) (media_with_track media b)
  may_be-track b = record {
    len = h.len;
    contents = h.contents;
    tracks = ap (λ (bs : List Building). bs ++ b ∷ []) h.tracks;
    written = h.written;
  }

  module _ (t : ℕ) (s : Sample) where
    -- the track with the sample
    abbrev with_one : Building
    with_one = pushed (building_at kept.tracks t) s

    module _ (b : Building) (is : b ≡ with_one) where
      -- where what is pending isn't full, nothing goes to the sink
      pub may_be-pending : is_full b.config.timescale b.pending ≡ false
          → MayBe (record kept { tracks = slice_set kept.tracks t b }) (media_with media t s)
      unfolding media_with
      may_be-pending full =
          let not_full : is_full with_one.config.timescale with_one.pending ≡ false = rw is at full in
          rw (← h.tracks, not_full) (record {
            len = h.len;
            contents = h.contents;
            tracks = ap (λ (x : Building). slice_set kept.tracks t x) is;
            written = h.written;
          })

      -- else it does, as a chunk
      pub may_be-chunk : (new : KeptMedia) → is_full b.config.timescale b.pending ≡ true
          → new.len ≡ kept.len + length (sample_bytes b.pending)
          → IsAppended kept.contents new.contents (sample_bytes b.pending)
          → new.tracks ≡ slice_set kept.tracks t (closed b kept.len)
          → new.written ≡ kept.written ++ record { track = t; index = length b.chunks } ∷ []
          → MayBe new (media_with media t s)
      unfolding media_with
      may_be-chunk new full len bytes tracks written =
          let is_now_full : is_full with_one.config.timescale with_one.pending ≡ true = rw is at full in
          let grown = rw is at len in
          let appended = rw is at bytes in
          rw (← h.tracks, is_now_full, ← h.len, ← h.written) (record {
            len = omega (arith, grown, h.len, length-append media.buffer (sample_bytes with_one.pending));
            contents = known-append kept.contents new.contents (sample_bytes with_one.pending) media.buffer h.contents
                appended;
            tracks = rw is at tracks;
            written = rw is at written;
          })

  -- the end
  pub may_be-end : (new : KeptMedia) (mdat timescale n : ℕ) (tail : List ℕ) → mdat + 16 ≤ kept.len
      → n ≡ kept.len - mdat + length (unwritten kept.tracks)
      → tail ≡ unwritten kept.tracks ++ movie_bytes timescale (finished_buildings 1 kept.len kept.tracks)
      → new.len ≡ kept.len + length tail → IsFinished kept.contents new.contents mdat n tail
      → new.tracks ≡ kept.tracks → new.written ≡ kept.written → MayBe new (media_at_end mdat timescale media)
  may_be-end new mdat timescale n tail room size is len finished tracks written =
      let whole : bytes_at_end mdat (unwritten media.tracks)
      (movie_bytes timescale (finished_buildings 1 (length media.buffer) media.tracks)) media.buffer
      ≡ with_header media.buffer mdat n tail =
      rw (← h.tracks, ← h.len, size, is) refl in
      record {
        len = rw whole (omega (
          arith,
          len,
          h.len,
          length-with_header media.buffer mdat n tail (omega (arith, room, h.len)),
        ));
        contents = rw whole (known-finished kept.contents new.contents mdat n tail media.buffer h.contents finished);
        tracks = tracks ∙ h.tracks;
        written = written ∙ h.written;
      }
