-- Why containers are refused whose children come after fields: those of sample entries, and of references to media.
use Rattle.std.proofs.Common.{◌≡◌, ◌≤◌, ℕ, Bool, true, false, cond, eqb, ltb, List, [], ◌∷◌, Option, Some, None, Result}
use Rattle.std.proofs.Common.{Ok, Err, refl, sym, ap, ◌∙◌, length, take, drop, arith}
use Rattle.byteorder.specs.Endian.{big_number}
use Rattle.mp4_codec.specs.declared.box_type.BoxType.{BoxType}
use Rattle.mp4_codec.specs.declared.box_type.BoxType.TheVariants.{DinfBox, DrefBox, UrlBox, StsdBox, Avc1Box, Hev1Box}
use Rattle.mp4_codec.specs.declared.box_type.BoxType.TheVariants.{Vp09Box, Mp4aBox, Tx3gBox, AvcCBox, HvcCBox}
use Rattle.mp4_codec.specs.declared.box_type.BoxType.TheVariants.{VpccBox, EsdsBox, WaveBox, IlstBox}
use Rattle.mp4_codec.specs.BoxType.{box_type, IsNamed}
use Rattle.mp4_codec.specs.Cause.{Cause, invalid_data, fault_of, ◌or◌, ◌>>=◌}
use Rattle.mp4_codec.specs.Bytes.{number_at, bytes_at}
use Rattle.mp4_codec.specs.Children.{ChildBox, children, first_fault, fault_in, last_of}
use Rattle.mp4_leaf.specs.Dinf.{dinf_of, dref_of, url_of}
use Rattle.mp4_entry.specs.declared.sample_entry.SampleEntry.TheVariants.{Other}
use Rattle.mp4_entry.specs.declared.esds.EsdsBox.{EsdsBox as Esds}
use Rattle.mp4_entry.specs.Stsd.{stsd_of, entry_of, entry_in, with_entry}
use Rattle.mp4_entry.specs.Visual.{visual_at, visual_entry, required}
use Rattle.mp4_entry.specs.Avc1.{avc1_of}
use Rattle.mp4_entry.specs.Avcc.{avcc_of}
use Rattle.mp4_entry.specs.Hev1.{hev1_of}
use Rattle.mp4_entry.specs.Hvcc.{hvcc_of}
use Rattle.mp4_entry.specs.Vp09.{vp09_of}
use Rattle.mp4_entry.specs.Vpcc.{vpcc_of}
use Rattle.mp4_entry.specs.Mp4a.{mp4a_of, child_esds, versioned_esds, or_wave_esds, last_payload, wave_esds}
use Rattle.mp4_entry.specs.Esds.{esds_of}
use Rattle.mp4_entry.specs.Tx3g.{tx3g_of}
use Rattle.mp4_faults.specs.ByChildren.{container_fault, after_children, missing, lacking, lacking_config, types_in}
use Rattle.mp4_faults.specs.Containers.{is_one_of, read_by, read_by_table, read_by_other, reads_items, before_sound}
use Rattle.mp4_faults.specs.Containers.{after_sound}
use Rattle.mp4_faults.specs.Refusal.{payload_fault, table_fault, other_fault}
use Rattle.mp4_faults.proofs.Fields.{number-there, bytes-there}
use Rattle.mp4_faults.proofs.Looked.{OfTypes, last-type, or-entry, no-entry, looks, looks-at, seen-fault}
use Rattle.mp4_faults.proofs.Taken.{is-there, gathers, needs, has, by-first}

-- REFERENCES

dref-looks : (c : ChildBox) (n : IsNamed c.0) → OfTypes c n (fault_in UrlBox url_of c) (read_by DrefBox)
unfolding payload_fault table_fault other_fault read_by read_by_table read_by_other box_type
dref-looks c n = last-type c n UrlBox url_of refl (λ q. refl)

pub dref-by : (payload : List ℕ) → 8 ≤ length payload
    → payload_fault DrefBox payload ≡ container_fault DrefBox payload (drop 8 payload)
unfolding payload_fault table_fault other_fault dref_of read_by read_by_table read_by_other reads_items after_children
    missing box_type
dref-by payload long =
    rw (
      number-there payload 0 1 (omega (arith, long)),
      number-there payload 1 3 (omega (arith, long)),
      number-there payload 4 4 (omega (arith, long)),
    )
    (gathers (read_by DrefBox) (fault_in UrlBox url_of) dref-looks refl (last_of UrlBox url_of) _ _ (drop 8 payload)
    (λ named none. refl))

dinf-looks : (c : ChildBox) (n : IsNamed c.0) → OfTypes c n (fault_in DrefBox dref_of c) (read_by DinfBox)
unfolding payload_fault table_fault other_fault read_by read_by_table read_by_other box_type
dinf-looks c n = last-type c n DrefBox dref_of refl (λ q. refl)

pub dinf-by : (payload : List ℕ) → payload_fault DinfBox payload ≡ container_fault DinfBox payload payload
unfolding payload_fault table_fault other_fault dinf_of read_by read_by_table read_by_other reads_items after_children
    missing lacking box_type
dinf-by payload =
    gathers (read_by DinfBox) (fault_in DrefBox dref_of) dinf-looks refl (last_of DrefBox dref_of) _ _ payload
    (λ named none. needs (read_by DinfBox) (fault_in DrefBox dref_of) dinf-looks (children payload).0 named none DrefBox
    dref_of refl (λ q. refl) refl _ _ (λ x. refl))

-- THE SAMPLE DESCRIPTION

stsd-looks : (c : ChildBox) (n : IsNamed c.0) → OfTypes c n (fault_of (entry_of c)) (read_by StsdBox)
unfolding payload_fault table_fault other_fault read_by read_by_table read_by_other entry_of box_type
stsd-looks c n =
    or-entry c n Avc1Box avc1_of refl (λ q. refl) _ _ (
    or-entry c n Hev1Box hev1_of refl (λ q. refl) _ _ (
    or-entry c n Vp09Box vp09_of refl (λ q. refl) _ _ (
    or-entry c n Mp4aBox mp4a_of refl (λ q. refl) _ _ (
    or-entry c n Tx3gBox tx3g_of refl (λ q. refl) _ _ (no-entry c n (Other c.0))))))

pub stsd-by : (payload : List ℕ) → 8 ≤ length payload
    → payload_fault StsdBox payload ≡ container_fault StsdBox payload (drop 8 payload)
unfolding payload_fault table_fault other_fault stsd_of read_by read_by_table read_by_other reads_items after_children
    missing box_type
stsd-by payload long =
    let version = big_number 1 (take 1 (drop 0 payload)) in
    let flags = big_number 3 (take 3 (drop 1 payload)) in
    rw (
      number-there payload 0 1 (omega (arith, long)),
      number-there payload 1 3 (omega (arith, long)),
      number-there payload 4 4 (omega (arith, long)),
    )
    (by-first (λ c. fault_of (entry_of c)) (looks (read_by StsdBox))
    (looks-at (read_by StsdBox) (λ c. fault_of (entry_of c)) stsd-looks refl)
    (λ first. entry_in first >>= λ entry. Ok (with_entry version flags entry)) refl
    (λ c. seen-fault (with_entry version flags) (entry_of c)) (drop 8 payload))

-- VISUAL SAMPLE ENTRIES

required-next : {C B : Type 0} (o : Option C) (next : C → Result B Cause) → ((x : C) → fault_of (next x) ≡ None)
    → fault_of (required o >>= next) ≡ cond (is-there o) None (Some invalid_data)
required-next None next h = refl
required-next (Some x) next h = h x

visual-by : {C : Type 0} (kind : BoxType) (value : List ℕ → Result C Cause) → IsNamed kind
    → ((q : List ℕ) → payload_fault kind q ≡ fault_of (value q)) → is_one_of IlstBox (kind ∷ []) ≡ false
    → is_one_of kind (kind ∷ []) ≡ true → (payload : List ℕ) → 78 ≤ length payload
    → fault_of (visual_entry kind value payload)
    ≡ (first_fault (looks (kind ∷ [])) (children (drop 78 payload)).0 (children (drop 78 payload)).1
    or lacking_config kind (types_in (children (drop 78 payload)).0))
unfolding visual_entry visual_at
visual-by {C} kind value known is no-items among payload long =
    let body = drop 78 payload in
    rw (
      bytes-there payload 0 6 (omega (arith, long)),
      number-there payload 6 2 (omega (arith, long)),
      bytes-there payload 8 16 (omega (arith, long)),
      number-there payload 24 2 (omega (arith, long)),
      number-there payload 26 2 (omega (arith, long)),
      number-there payload 28 4 (omega (arith, long)),
      number-there payload 32 4 (omega (arith, long)),
      bytes-there payload 36 4 (omega (arith, long)),
      number-there payload 40 2 (omega (arith, long)),
      bytes-there payload 42 32 (omega (arith, long)),
      number-there payload 74 2 (omega (arith, long)),
      bytes-there payload 76 2 (omega (arith, long)),
    )
    (gathers (kind ∷ []) (fault_in kind value) one-kind no-items (last_of kind value) _ _ body
    (λ named none. required-next (last_of kind value (children body).0) _ (λ x. refl)
    ∙ ap (λ (b : Bool). cond b None (Some invalid_data))
    (has (kind ∷ []) (fault_in kind value) one-kind (children body).0 named none kind value known is among)))
  where
    one-kind : (c : ChildBox) (n : IsNamed c.0) → OfTypes c n (fault_in kind value c) (kind ∷ [])
    one-kind c n = last-type c n kind value known is

pub avc1-by : (payload : List ℕ) → 78 ≤ length payload
    → payload_fault Avc1Box payload ≡ container_fault Avc1Box payload (drop 78 payload)
unfolding payload_fault table_fault other_fault avc1_of read_by read_by_table reads_items after_children missing
    box_type
avc1-by payload long =
    seen-fault _ (visual_entry AvcCBox avcc_of payload)
    ∙ visual-by AvcCBox avcc_of refl (λ q. refl) refl refl payload long

pub hev1-by : (payload : List ℕ) → 78 ≤ length payload
    → payload_fault Hev1Box payload ≡ container_fault Hev1Box payload (drop 78 payload)
unfolding payload_fault table_fault other_fault hev1_of read_by read_by_table reads_items after_children missing
    box_type
hev1-by payload long =
    seen-fault _ (visual_entry HvcCBox hvcc_of payload)
    ∙ visual-by HvcCBox hvcc_of refl (λ q. refl) refl refl payload long

pub vp09-by : (payload : List ℕ) → 78 ≤ length payload
    → payload_fault Vp09Box payload ≡ container_fault Vp09Box payload (drop 78 payload)
unfolding payload_fault table_fault other_fault vp09_of read_by read_by_table reads_items after_children missing
    box_type
vp09-by payload long =
    seen-fault _ (visual_entry VpccBox vpcc_of payload)
    ∙ visual-by VpccBox vpcc_of refl (λ q. refl) refl refl payload long

-- SOUND

mp4a-looks : (c : ChildBox) (n : IsNamed c.0) → OfTypes c n (fault_in EsdsBox esds_of c) (read_by Mp4aBox)
unfolding payload_fault table_fault other_fault read_by read_by_table box_type
mp4a-looks c n = last-type c n EsdsBox esds_of refl (λ q. refl)

-- the esds among children, or that of a wave
esds-by : (payload body : List ℕ) → fault_of (child_esds body) ≡ container_fault Mp4aBox payload body
unfolding payload_fault table_fault other_fault child_esds read_by read_by_table reads_items after_children box_type
esds-by payload body =
    gathers (read_by Mp4aBox) (fault_in EsdsBox esds_of) mp4a-looks refl (last_of EsdsBox esds_of) (or_wave_esds body) _
    body (λ named none. or-wave (last_of EsdsBox esds_of (children body).0)
    ∙ ap (λ (b : Bool). cond b None (fault_of (last_payload WaveBox body >>= wave_esds)))
    (has (read_by Mp4aBox) (fault_in EsdsBox esds_of) mp4a-looks (children body).0 named none EsdsBox esds_of refl
    (λ q. refl) refl))
  where
    or-wave : (o : Option Esds)
        → fault_of (or_wave_esds body o) ≡ cond (is-there o) None (fault_of (last_payload WaveBox body >>= wave_esds))
    or-wave None = refl
    or-wave (Some x) = refl

-- the fields of an entry, and its version
mp4a-there : (payload : List ℕ) → 28 ≤ length payload
    → fault_of (mp4a_of payload) ≡ fault_of (versioned_esds (big_number 2 (take 2 (drop 8 payload))) (drop 28 payload))
unfolding mp4a_of
mp4a-there payload long =
    rw (
      bytes-there payload 0 6 (omega (arith, long)),
      number-there payload 6 2 (omega (arith, long)),
      number-there payload 8 2 (omega (arith, long)),
      bytes-there payload 10 6 (omega (arith, long)),
      number-there payload 16 2 (omega (arith, long)),
      number-there payload 18 2 (omega (arith, long)),
      bytes-there payload 20 4 (omega (arith, long)),
      number-there payload 24 4 (omega (arith, long)),
    )
    (seen-fault _ (versioned_esds (big_number 2 (take 2 (drop 8 payload))) (drop 28 payload)))

-- Where the children of a sound's sample entry begin, its version says.
module _ (payload : List ℕ) (start : ℕ) where
  abbrev version : ℕ
  version = big_number 2 (take 2 (drop 8 payload))

  data Starts : Type 0 where
    plain : start ≡ 28 → eqb version 0 ≡ true → Starts
    long : start ≡ 44 → eqb version 0 ≡ false → eqb version 1 ≡ true → Starts

  by-version : (zero one : Bool) → eqb version 0 ≡ zero → eqb version 1 ≡ one
      → cond zero (Some 28) (cond one (Some 44) None) ≡ Some start → Starts
  by-version true one is z e = let same : 28 ≡ start = cc in plain (sym same) is
  by-version false true is z e = let same : 44 ≡ start = cc in long (sym same) is z
  by-version false false is z e = absurd cc

  starts : before_sound payload ≡ Some start → Starts
  unfolding bytes_at number_at
  starts e = by (ltb (length payload) 8) e
    where
      by-two : (few : Bool)
          → after_sound (cond few (Err invalid_data) (Ok (version, drop 2 (drop 8 payload)))) ≡ Some start → Starts
      by-two true e = absurd cc
      by-two false e = by-version (eqb version 0) (eqb version 1) refl refl e

      by : (few : Bool)
          → after_sound (◌>>=◌ {A = List ℕ × List ℕ} {B = ℕ × List ℕ}
          (cond few (Err invalid_data) (Ok (take 8 payload, drop 8 payload))) (λ skipped. number_at 2 skipped.1))
          ≡ Some start → Starts
      by true e = absurd cc
      by false e = by-two (ltb (length (drop 8 payload)) 2) e

  pub mp4a-by : before_sound payload ≡ Some start → start ≤ length payload
      → payload_fault Mp4aBox payload ≡ container_fault Mp4aBox payload (drop start payload)
  unfolding payload_fault table_fault versioned_esds
  mp4a-by e inside = by (starts e)
    where
      by : Starts → fault_of (mp4a_of payload) ≡ container_fault Mp4aBox payload (drop start payload)
      by (plain same zero) =
          mp4a-there payload (omega (arith, same, inside)) ∙ rw zero (esds-by payload (drop 28 payload))
          ∙ ap (λ (n : ℕ). container_fault Mp4aBox payload (drop n payload)) (sym same)
      by (long same not one) =
          mp4a-there payload (omega (arith, same, inside))
          ∙ rw (not, one, bytes-there payload 28 16 (omega (arith, same, inside))) (esds-by payload (drop 44 payload))
          ∙ ap (λ (n : ℕ). container_fault Mp4aBox payload (drop n payload)) (sym same)
