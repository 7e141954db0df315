-- Movies that are opened from a file and from its rewritten form are read alike.
use Rattle.std.proofs.Common.{◌≡◌, ◌∙◌, ℕ, zero, suc, ◌+◌, ◌⊎◌, inl, inr, List, [], ◌∷◌, length, map, None, Some}
use Rattle.std.proofs.Common.{Result, Ok, refl, sym, ap, subst}
use Rattle.std.specs.Prelude.{slice_get}
use Rattle.mp4_codec.specs.Cursor.{here}
use Rattle.mp4_boxes.specs.declared.trak.TrakBox.{TrakBox}
use Rattle.mp4_media.specs.declared.reader.Mp4Reader.{Mp4Reader}
use Rattle.mp4_media.specs.FileBoxes.{OpenedFile, opened_file}
use Rattle.mp4_media.specs.FileGrammar.{IsFile}
use Rattle.mp4_media.specs.Opening.{IsOpening}
use Rattle.mp4_media.specs.Reading.{sample_in}
use Rattle.mp4_media.specs.RoundTrip.{sample_read, samples_counted}
use Rattle.mp4_remux.specs.Alike.{HasSameSamples}
use Rattle.mp4_remux.specs.Reads.{count_of, read_of}
use Rattle.mp4_remux.specs.Remuxed.{IsRemuxed, IsSameTrack, ids_of}
use Rattle.mp4_remux.proofs.Checking.{read_in_there}
use Rattle.mp4_remux.proofs.Sameness.{counted_there}

ok_of : {E : Type 0} (a b : OpenedFile) → ◌≡◌ {A = Result OpenedFile E} (Ok a) (Ok b) → a ≡ b
ok_of a b e = cc

-- a file is opened in one way
opened_so : (bytes : List ℕ) (opened : OpenedFile) (m : Mp4Reader) → IsFile (length bytes) (here bytes 0) opened
    → IsOpening bytes (Ok m) → opened ≡ opened_file m
opened_so bytes opened m file is = ok_of opened (opened_file m) (is.opens opened file)

module _ (bytes : List ℕ) (opened : OpenedFile) (m : Mp4Reader) (file : IsFile (length bytes) (here bytes 0) opened)
    (is : IsOpening bytes (Ok m)) (id : ℕ)
  where
    -- what a movie reads is what its file has
    reads : (k : ℕ) → sample_read m id k ≡ read_of bytes opened id k
    reads k =
        ap (λ (b : List ℕ). sample_in b m.movie.tracks id k) is.bytes
        ∙ sym (read_in_there m.movie is.tracks id bytes k)
        ∙ ap (λ (o : OpenedFile). read_of bytes o id k) (sym (opened_so bytes opened m file is))

    counts : samples_counted m id ≡ count_of opened id
    counts =
        sym (counted_there m.movie is.tracks id)
        ∙ ap (λ (o : OpenedFile). count_of o id) (sym (opened_so bytes opened m file is))

-- the box with an id that is there
box_with : (ts : List TrakBox) (id i : ℕ) → slice_get (map (λ (t : TrakBox). t.tkhd.track_id) ts) i ≡ Some id
    → (t : TrakBox) × ((slice_get ts i ≡ Some t) × (t.tkhd.track_id ≡ id))
box_with [] id i there = absurd cc
box_with (t ∷ ts) id zero there = (t, (refl, cc))
box_with (t ∷ ts) id (suc i) there = box_with ts id i there

module _ (before after kept : List ℕ) (opened rewritten : OpenedFile)
    (remuxed : IsRemuxed before after opened rewritten kept)
  where
    pub has_ids : (other : Mp4Reader) → IsOpening after (Ok other) → ids_of other.movie.moov ≡ kept
    has_ids other is =
        ap (λ (o : OpenedFile). ids_of o.moov) (sym (opened_so after rewritten other remuxed.opens_after is))
        ∙ remuxed.ids

    pub has_samples : (one other : Mp4Reader) → IsOpening before (Ok one) → IsOpening after (Ok other) → (id i : ℕ)
        → slice_get kept i ≡ Some id → HasSameSamples one other id
    has_samples one other was is id i there =
        let box = box_with rewritten.moov.traks id i (ap (λ (ids : List ℕ). slice_get ids i) remuxed.ids ∙ there) in
        let track : IsSameTrack before after opened rewritten id =
        subst (λ n. IsSameTrack before after opened rewritten n) box.1.1 (remuxed.tracks box.0 i box.1.0) in
        let first = reads before opened one remuxed.opens was id in
        let second = reads after rewritten other remuxed.opens_after is id in
        record {
          count = track.count;
          same = λ k some le.
              let s = track.same k some le in (s.0, (first k ∙ s.1.0, second k ∙ s.1.1));
          none = none track.count track.none;
          counted =
              counts after rewritten other remuxed.opens_after is id ∙ track.counted
              ∙ sym (counts before opened one remuxed.opens was id);
        }
      where
        none : (count : ℕ) → ((count ≡ 0) × (count_of opened id ≡ Ok 0))
            ⊎ ((read_of before opened id (count + 1) ≡ Ok None) × (read_of after rewritten id (count + 1) ≡ Ok None))
            → ((count ≡ 0) × (samples_counted one id ≡ Ok 0))
            ⊎ ((sample_read one id (count + 1) ≡ Ok None) × (sample_read other id (count + 1) ≡ Ok None))
        none count (inl empty) = inl (empty.0, counts before opened one remuxed.opens was id ∙ empty.1)
        none count (inr past) =
            inr (
              reads before opened one remuxed.opens was id (count + 1) ∙ past.0,
              reads after rewritten other remuxed.opens_after is id (count + 1) ∙ past.1,
            )
