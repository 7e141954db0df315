-- The box of a fine track has its numbers within their types, is well-formed, and is not refused.
use Rattle.std.proofs.Common.{◌≡◌, ℕ, ◌-◌, ◌^◌, ◌≤◌, ◌<◌, List, length}
use Rattle.std.proofs.Common.{None, arith, lit<}
use Rattle.std.specs.List.{All, sum}
use Rattle.std.proofs.lemmas.List.Elements.{All-map}
use Rattle.std.proofs.lemmas.List.Sums.{sum_by-le, sum-map}
use Rattle.mp4_leaf.specs.Dinf.{IsInRangeDinf, IsWellFormedDinf, default_dinf}
use Rattle.mp4_boxes.specs.Trak.{trak_refusal, IsInRangeTrak, IsWellFormedTrak}
use Rattle.mp4_boxes.specs.Mdia.{mdia_refusal, IsInRangeMdia, IsWellFormedMdia}
use Rattle.mp4_boxes.specs.Minf.{minf_refusal, IsInRangeMinf, IsWellFormedMinf}
use Rattle.mp4_boxes.specs.Stbl.{stbl_refusal, IsInRangeStbl, IsWellFormedStbl}
use Rattle.mp4_mux.specs.SampleInfos.{IsInRangeSampleInfo}
use Rattle.mp4_mux.specs.declared.sample_info.SampleInfo.{SampleInfo}
use Rattle.mp4_mux.proofs.ConfigLaws.{is_accepted}
use Rattle.mp4_mux.proofs.SizeTableLaws.{stsz_for-is_not_refused}
use Rattle.mp4_mux.proofs.TableRangeLaws.{IsInRangeStts-stts_for, IsInRangeCtts-ctts_for}
use Rattle.mp4_mux.proofs.TableRangeLaws.{IsInRangeStss-stss_for, IsInRangeStsz-stsz_for, IsInRangeStsc-stsc_for}
use Rattle.mp4_mux.proofs.TableRangeLaws.{IsInRangeStco-stco_for, IsInRangeCo64-co64_for, IsWellFormedStts-stts_for}
use Rattle.mp4_mux.proofs.TableRangeLaws.{IsWellFormedCtts-ctts_for, IsWellFormedStss-stss_for}
use Rattle.mp4_mux.proofs.TableRangeLaws.{IsWellFormedStsz-stsz_for}
use Rattle.mp4_mux.proofs.TableRangeLaws.{IsWellFormedStsc-stsc_for, IsWellFormedStco-stco_for}
use Rattle.mp4_mux.proofs.TableRangeLaws.{IsWellFormedCo64-co64_for}
use Rattle.mp4_mux.proofs.TableRangeLaws.{HasPlaces-stco_for-co64_for}
use Rattle.mp4_mux.specs.TrackHeaders.{FinishedTrack, PlacedChunk, media_duration}
use Rattle.mp4_mux.proofs.TrackHeaderLaws.{tkhd_for-in_range, tkhd_for-sound, mdhd_for-in_range, mdhd_for-sound}
use Rattle.mp4_mux.proofs.TrackHeaderLaws.{hdlr_for-in_range, hdlr_for-well_formed, vmhd_for-in_range}
use Rattle.mp4_mux.proofs.TrackHeaderLaws.{vmhd_for-well_formed}
use Rattle.mp4_mux.proofs.TrackHeaderLaws.{smhd_for-in_range, smhd_for-well_formed}
use Rattle.mp4_mux.proofs.DescriptionLaws.{stsd_for-in_range, stsd_for-well_formed, stsd_for-sound}
use Rattle.mp4_mux.specs.FinishedTrack.{counts_of, offsets_of, stbl_for, minf_for, mdia_for, trak_with, trak_for}
use Rattle.mp4_mux.proofs.FineTracks.{IsFineTrack}

-- samples of 32 bits each, and fewer than 2^32, last for less than 2^64 ticks
pub media_duration-small : (ss : List SampleInfo) → All IsInRangeSampleInfo ss → length ss < 2 ^ 32
    → media_duration ss < 2 ^ 64
unfolding media_duration
media_duration-small ss h few =
    let each : All (λ (s : SampleInfo). s.duration ≤ 2 ^ 32 - 1) ss =
    λ k d lt. let short = (h k d lt).duration in omega arith in
    omega (arith, sum_by-le (λ (s : SampleInfo). s.duration) (2 ^ 32 - 1) ss each)

dinf-in_range : IsInRangeDinf default_dinf
dinf-in_range = record { dref = record { version = lit< tt; url = record { version = lit< tt } } }

dinf-well_formed : IsWellFormedDinf default_dinf
dinf-well_formed = record { flags = lit< tt; url = record { flags = lit< tt; location = tt } }

module _ (m : ℕ) (t : FinishedTrack) (h : IsFineTrack m t) where
  some : All (λ n. 1 ≤ n) (counts_of t.chunks)
  some = All-map (λ n. 1 ≤ n) (λ (c : PlacedChunk). c.count) t.chunks h.some_per_chunk

  few_counted : sum (counts_of t.chunks) < 2 ^ 32
  few_counted =
      let few = h.few_samples in
      let all = h.all_in_chunks in
      omega (arith, sum-map (λ (c : PlacedChunk). c.count) t.chunks)

  stbl-in_range : IsInRangeStbl (stbl_for t)
  stbl-in_range = record {
    stsd = stsd_for-in_range t.config.media_conf t.samples h.config.media_conf;
    stts = IsInRangeStts-stts_for t.samples h.samples h.few_samples;
    ctts = IsInRangeCtts-ctts_for t.samples h.samples h.few_samples;
    stss = IsInRangeStss-stss_for t.samples h.few_samples;
    stsc = IsInRangeStsc-stsc_for (counts_of t.chunks) some few_counted;
    stsz = IsInRangeStsz-stsz_for t.samples h.samples h.few_samples;
    stco = IsInRangeStco-stco_for (offsets_of t.chunks);
    co64 =
        IsInRangeCo64-co64_for (offsets_of t.chunks)
        (All-map (λ o. o < 2 ^ 64) (λ (c : PlacedChunk). c.offset) t.chunks h.offsets);
  }

  stbl-well_formed : IsWellFormedStbl (stbl_for t)
  stbl-well_formed = record {
    stsd = stsd_for-well_formed t.config.media_conf t.samples;
    stts = IsWellFormedStts-stts_for t.samples;
    ctts = IsWellFormedCtts-ctts_for t.samples;
    stss = IsWellFormedStss-stss_for t.samples;
    stsc = IsWellFormedStsc-stsc_for (counts_of t.chunks) some;
    stsz = IsWellFormedStsz-stsz_for t.samples;
    stco = IsWellFormedStco-stco_for (offsets_of t.chunks);
    co64 = IsWellFormedCo64-co64_for (offsets_of t.chunks);
    places = HasPlaces-stco_for-co64_for (offsets_of t.chunks);
  }

  minf-in_range : IsInRangeMinf (minf_for t)
  minf-in_range = record {
    vmhd = vmhd_for-in_range t.config.media_conf;
    smhd = smhd_for-in_range t.config.media_conf;
    dinf = dinf-in_range;
    stbl = stbl-in_range;
  }

  minf-well_formed : IsWellFormedMinf (minf_for t)
  minf-well_formed = record {
    vmhd = vmhd_for-well_formed t.config.media_conf;
    smhd = smhd_for-well_formed t.config.media_conf;
    dinf = dinf-well_formed;
    stbl = stbl-well_formed;
  }

  mdia-in_range : IsInRangeMdia (mdia_for (media_duration t.samples) t)
  mdia-in_range = record {
    mdhd =
        mdhd_for-in_range (media_duration t.samples) t.config (media_duration-small t.samples h.samples h.few_samples)
        h.config;
    hdlr = hdlr_for-in_range t.config.track_type;
    minf = minf-in_range;
  }

  mdia-well_formed : IsWellFormedMdia (mdia_for (media_duration t.samples) t)
  mdia-well_formed = record { mdhd = lit< tt; hdlr = hdlr_for-well_formed t.config.track_type; minf = minf-well_formed }

  -- its numbers are within their types
  pub trak_for-in_range : IsInRangeTrak (trak_for m t)
  unfolding trak_with
  trak_for-in_range = record {
    tkhd = tkhd_for-in_range t.id _ t.config.media_conf h.id h.duration h.config.media_conf;
    edts = tt;
    meta = tt;
    mdia = mdia-in_range;
  }

  -- it is well-formed
  pub trak_for-well_formed : IsWellFormedTrak (trak_for m t)
  unfolding trak_with
  trak_for-well_formed = record { tkhd = lit< tt; edts = tt; meta = tt; mdia = mdia-well_formed }

  minf-sound : minf_refusal (minf_for t) ≡ None
  unfolding minf_refusal stbl_refusal
  minf-sound =
      rw (stsd_for-sound t.config.media_conf t.samples (is_accepted t.config h.accepted).media)
      (stsz_for-is_not_refused t.samples)

  mdia-sound : mdia_refusal (mdia_for (media_duration t.samples) t) ≡ None
  unfolding mdia_refusal
  mdia-sound =
      rw (mdhd_for-sound (media_duration t.samples) t.config (is_accepted t.config h.accepted).language) minf-sound

  -- and it is not refused
  pub trak_for-sound : trak_refusal (trak_for m t) ≡ None
  unfolding trak_refusal trak_with
  trak_for-sound = rw (tkhd_for-sound t.id _ t.config.media_conf) mdia-sound
