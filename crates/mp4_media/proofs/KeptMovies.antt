-- A writer of a sink may have, after each call, the state that the call makes of the one that it may have had.
use Rattle.std.proofs.Common.{◌≡◌, ℕ, zero, suc, ◌+◌, ◌-◌, ◌<◌, ◌≤◌, ◌^◌, List, [], ◌∷◌, ◌++◌, length, true, false}
use Rattle.std.proofs.Common.{Option, Some, None, append_assoc, refl, sym, ap, subst, ◌∙◌, arith}
use Rattle.std.specs.Prelude.{IfSome}
use Rattle.std.specs.List.{All}
use Rattle.std.proofs.lemmas.List.{length-append}
use Rattle.mp4_codec.specs.declared.box_type.BoxType.TheVariants.{FtypBox as ftyp}
use Rattle.mp4_codec.specs.Boxes.{box_bytes, write_cause}
use Rattle.mp4_leaf.specs.Ftyp.{ftyp_payload}
use Rattle.mp4_boxes.specs.Moov.{IsCanonicalMoov, moov_payload, moov_refusal}
use Rattle.mp4_samples.specs.Samples.{Sample}
use Rattle.mp4_mux.specs.declared.config.Mp4Config.{Mp4Config}
use Rattle.mp4_mux.specs.declared.config.TrackConfig.{TrackConfig}
use Rattle.mp4_mux.specs.Building.{Building, new_building, room_cause}
use Rattle.mp4_mux.specs.Config.{IsInRangeConfig, IsInRangeTrackConfig, config_cause}
use Rattle.mp4_mux.specs.FinishedTrack.{movie_for}
use Rattle.mp4_mux.specs.Mdat.{mdat_header_of}
use Rattle.mp4_mux.specs.Media.{Media, KeptMedia, MayBe, building_at, kept_with_track, media_with, media_with_track}
use Rattle.mp4_mux.specs.Parts.{Parts, open_state, state_of, unwritten, finished_buildings, bytes_at_start}
use Rattle.mp4_mux.specs.Parts.{media_at_end}
use Rattle.mp4_mux.specs.SampleInfos.{IsInRangeSampleInfo}
use Rattle.mp4_mux.specs.Sound.{IsSound}
use Rattle.mp4_mux.specs.Writing.{WriterState, info_of, started, with_track, with_sample, with_end, with_file_type}
use Rattle.mp4_mux.specs.Writing.{start_cause, track_cause, sample_cause, end_cause, movie_of, whole_of, data_of}
use Rattle.mp4_mux.specs.Writing.{data_place, file_type_of}
use Rattle.mp4_mux.specs.Written.{IsWrittenMovie}
use Rattle.mp4_source.specs.Sink.{IsAppended}
use Rattle.mp4_mux.proofs.KeptLaws.{may_be-track, known-append}
use Rattle.mp4_mux.proofs.MdatLaws.{length-mdat_header_of}
use Rattle.mp4_mux.proofs.StateLaws.{IsWelcome, track_welcome, sample_welcome, end_welcome, sound_sample}
use Rattle.mp4_mux.proofs.PartsLaws.{state-ended, state-open, state-track, writing-track, state-sample, writing-sample}
use Rattle.mp4_mux.proofs.PartsLaws.{is_track, cause-same, state_at_start, writing_at_start}
use Rattle.mp4_mux.proofs.EndLaws.{few-kept, clocks-kept, data_end-kept, state-then, writing-then}
use Rattle.mp4_mux.proofs.EndMovieLaws.{movie-written-kept, movie-canonical-kept}
use Rattle.mp4_mux.proofs.FineLaws.{data_end-le-whole}
use Rattle.mp4_mux.proofs.WrittenLaws.{written_movie}
use Rattle.mp4_media.specs.Finished.{Opens}
use Rattle.mp4_media.specs.WriterFields.{KeptMovie, MayHold, parts_of}
use Rattle.mp4_media.proofs.Finishing.{opens}

-- a writer that begins
module _ (front : List ℕ) (config : Mp4Config) (in_range : IsInRangeConfig config) (begun : start_cause config ≡ None)
  where
    -- the bytes after those that were there
    beginning : front ++ bytes_at_start [] config ≡ bytes_at_start front config
    unfolding with_file_type
    beginning =
        let file_type = box_bytes ftyp (ftyp_payload (file_type_of config)) in
        sym (append_assoc front file_type (mdat_header_of 8))

    file_type_end : length front + length (with_file_type [] config) ≡ length (with_file_type front config)
    unfolding with_file_type
    file_type_end = omega (arith, length-append front (with_file_type [] config))

    pub hold-start : (m : KeptMedia) → m.len ≡ length front + length (bytes_at_start [] config)
        → IfSome m.contents (λ bytes. bytes ≡ front ++ bytes_at_start [] config) → m.tracks ≡ [] → m.written ≡ []
        → MayHold (record {
          front = length front;
          mdat = length front + length (with_file_type [] config);
          config = config;
          media = m;
          ended = false;
          failed = false;
        }) (started front config)
    hold-start m len contents tracks written = rw file_type_end (record {
      goes_on = refl;
      held = record { buffer = bytes_at_start front config; tracks = []; written = [] };
      may_be = record {
        len = len ∙ sym (length-append front (bytes_at_start [] config)) ∙ ap length beginning;
        contents = rw beginning at contents;
        tracks = tracks;
        written = written;
      };
      writing = writing_at_start front config in_range begun;
      state = state_at_start front config;
    })

    -- the same of what a writer has found and made
    pub hold-begun : (n place header : ℕ) (beginning : List ℕ) (before : Option (List ℕ)) (m : KeptMedia)
        → n ≡ length front → beginning ≡ bytes_at_start [] config → header ≡ length (with_file_type [] config)
        → IfSome before (λ bytes. bytes ≡ front) → IsAppended before m.contents beginning
        → m.len ≡ length front + length beginning → place ≡ m.len - (length beginning - header)
        → m.tracks ≡ [] → m.written ≡ []
        → MayHold (record { front = n; mdat = place; config = config; media = m; ended = false; failed = false })
        (started front config)
    hold-begun n place header beginning before m is_n bytes is_header known appended len is_place tracks written =
        let placed : place ≡ length front + length (with_file_type [] config) =
        omega (
          arith,
          is_place,
          len,
          is_header,
          ap length bytes,
          length-append (with_file_type [] config) (mdat_header_of 8),
          length-mdat_header_of 8,
        ) in
        let contents = known-append before m.contents beginning front known appended in
        rw (is_n, placed) (hold-start m (len ∙ ap (λ (xs : List ℕ). length front + length xs) bytes)
        (rw bytes at contents) tracks written)

-- bytes that a sink may have before
zeros : ℕ → List ℕ
zeros zero = []
zeros (suc n) = 0 ∷ zeros n

length-zeros : (n : ℕ) → n ≡ length (zeros n)
unfolding zeros
length-zeros zero = refl
length-zeros (suc n) = ap suc (length-zeros n)

pub some_front : (known : Option (List ℕ)) (n : ℕ) → IfSome known (λ xs. n ≡ length xs)
    → (front : List ℕ) × ((n ≡ length front) × IfSome known (λ bytes. bytes ≡ front))
some_front None n h = (zeros n, (length-zeros n, tt))
some_front (Some xs) n h = (xs, (h, refl))

-- a track is added
module _ (w : KeptMovie) (st : WriterState) (h : MayHold w st) (config : TrackConfig)
    (none : track_cause st config ≡ None) where
  abbrev p : Parts
  p = parts_of w h.held

  unended : p.ended ≡ false
  unended = sym (state-ended p) ∙ (track_welcome (state_of p) config (rw h.state none)).goes_on

  none_open : track_cause (open_state p) config ≡ None
  none_open = ap (λ (x : WriterState). track_cause x config) (sym (state-open p unended) ∙ h.state) ∙ none

  pub track-config : config_cause config ≡ None
  track-config = (track_welcome (open_state p) config none_open).config_is

  pub hold-track : IsInRangeTrackConfig config
      → MayHold (record w { media = kept_with_track w.media (new_building w.config.timescale config) })
      (with_track st config)
  hold-track fits = record {
    goes_on = h.goes_on;
    held = media_with_track h.held (new_building w.config.timescale config);
    may_be = may_be-track w.media h.held h.may_be (new_building w.config.timescale config);
    writing = writing-track p h.writing unended config none_open fits;
    state = state-track p h.writing unended config none_open fits
        ∙ ap (λ (x : WriterState). with_track x config) h.state;
  }

-- a sample is written
module _ (w : KeptMovie) (st : WriterState) (h : MayHold w st) (id : ℕ) (s : Sample)
    (none : sample_cause st id s ≡ None) where
  abbrev sample-parts : Parts
  sample-parts = parts_of w h.held

  sample-unended : sample-parts.ended ≡ false
  sample-unended =
      sym (state-ended sample-parts) ∙ (sample_welcome (state_of sample-parts) id s (rw h.state none)).goes_on

  sample-none_open : sample_cause (open_state sample-parts) id s ≡ None
  sample-none_open =
      ap (λ (x : WriterState). sample_cause x id s) (sym (state-open sample-parts sample-unended) ∙ h.state) ∙ none

  sample-welcome : IsWelcome (open_state sample-parts) id s
  sample-welcome = sample_welcome (open_state sample-parts) id s sample-none_open

  pub sample-id : 1 ≤ id
  sample-id = let first = sample-welcome.track.first in omega (arith, first)

  pub sample-size : length s.bytes < 2 ^ 32
  sample-size = sample-welcome.size

  pub sample-track : id - 1 < length w.media.tracks
  sample-track = rw h.may_be.tracks (is_track sample-parts h.writing sample-unended id sample-welcome.track s)

  pub sample-room : room_cause (building_at w.media.tracks (id - 1)) s ≡ None
  sample-room = rw h.may_be.tracks
      (sym (cause-same sample-parts h.writing sample-unended id sample-welcome.track s) ∙ sample-none_open)

  sample-sound : IsInRangeSampleInfo (info_of s) → IsSound (with_sample (open_state sample-parts) id s)
  sample-sound fits = sound_sample (open_state sample-parts) id s h.writing.sound sample-none_open fits

  pub hold-sample : IsInRangeSampleInfo (info_of s) → (m : KeptMedia) → MayBe m (media_with h.held (id - 1) s)
      → MayHold (record w { media = m }) (with_sample st id s)
  hold-sample fits m may_be = record {
    goes_on = h.goes_on;
    held = media_with h.held (id - 1) s;
    may_be = may_be;
    writing = writing-sample sample-parts h.writing sample-unended id sample-welcome.track s (sample-sound fits);
    state = state-sample sample-parts h.writing sample-unended id sample-welcome.track s
        ∙ ap (λ (x : WriterState). with_sample x id s) h.state;
  }

-- an end is written
module _ (w : KeptMovie) (st : WriterState) (h : MayHold w st) (none : end_cause st ≡ None) where
  abbrev end-parts : Parts
  end-parts = parts_of w h.held

  end-unended : end-parts.ended ≡ false
  end-unended = sym (state-ended end-parts) ∙ end_welcome (state_of end-parts) (rw h.state none)

  end-none_open : end_cause (open_state end-parts) ≡ None
  end-none_open = ap end_cause (sym (state-open end-parts end-unended) ∙ h.state) ∙ none

  pub end-mdat : w.mdat + 16 ≤ w.media.len
  end-mdat = rw h.may_be.len h.writing.room

  pub end-few : length w.media.tracks < 2 ^ 32
  end-few = rw h.may_be.tracks (few-kept end-parts h.writing end-unended)

  pub end-clocks : All (λ (b : Building). b.movie_timescale ≡ w.config.timescale) w.media.tracks
  end-clocks = rw h.may_be.tracks (clocks-kept end-parts h.writing end-unended)

  pub end-written : w.media.len + length (unwritten w.media.tracks) < 2 ^ 64 → write_cause
      (moov_payload (movie_for w.config.timescale (finished_buildings 1 w.media.len w.media.tracks)))
      (moov_refusal (movie_for w.config.timescale (finished_buildings 1 w.media.len w.media.tracks))) ≡ None
  end-written = rw (h.may_be.len, h.may_be.tracks) (λ room. movie-written-kept end-parts h.writing end-unended
      (omega (arith, room, data_end-kept end-parts h.writing end-unended)) end-none_open)

  pub hold-end : (m : KeptMedia) → MayBe m (media_at_end w.mdat w.config.timescale h.held)
      → MayHold (record w { media = m; ended = true }) (with_end st)
  hold-end m may_be = record {
    goes_on = h.goes_on;
    held = media_at_end w.mdat w.config.timescale h.held;
    may_be = may_be;
    writing = writing-then end-parts h.writing end-unended;
    state = state-then end-parts h.writing end-unended ∙ ap with_end h.state;
  }

  same : with_end (open_state end-parts) ≡ with_end st
  same = ap with_end (sym (state-open end-parts end-unended) ∙ h.state)

  pub end-is_written : IsWrittenMovie (with_end st)
  end-is_written = subst IsWrittenMovie same (written_movie (open_state end-parts) h.writing.sound)

  -- what is kept then says that the bytes are a file
  module _ (new : KeptMovie) (now : MayHold new (with_end st)) (small : new.media.len < 2 ^ 64) where
    abbrev q : Parts
    q = parts_of new now.held

    fits : length now.held.buffer < 2 ^ 64
    fits = rw (← now.may_be.len) small

    whole : length (whole_of (with_end (open_state end-parts))) ≡ length now.held.buffer
    whole = ap (λ (x : WriterState). length (whole_of x)) (same ∙ sym now.state) ∙ ap length (sym now.writing.whole)

    within : data_place (open_state end-parts) + length (data_of (with_end (open_state end-parts))) < 2 ^ 64
    within = omega (arith, data_end-le-whole (open_state end-parts), whole, fits)

    canonical : IsCanonicalMoov (movie_of (state_of q))
    canonical = subst (λ (x : WriterState). IsCanonicalMoov (movie_of x)) (same ∙ sym now.state)
        (movie-canonical-kept end-parts h.writing end-unended within end-none_open)

    over : q.ended ≡ true
    over = sym (state-ended q) ∙ ap (λ (x : WriterState). x.ended) now.state

    pub end-opens : Opens (with_end st)
    end-opens = subst Opens now.state (opens q now.writing over canonical fits)
