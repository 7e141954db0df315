-- Which samples of runs are sync samples, and the spans of them.
use Rattle.std.proofs.Common.{◌≡◌, ℕ, zero, suc, ◌+◌, ◌-◌, ◌<◌, ◌≤◌, min, Bool, false, List, [], ◌∷◌, length}
use Rattle.std.proofs.Common.{take, get_or, Some, None, refl, ap, ◌∙◌, arith, ⊎_elim}
use Rattle.std.specs.Prelude.{◌==◌}
use Rattle.std.specs.List.{sum_by}
use Rattle.std.specs.Int.Bits.{bit_and}
use Rattle.std.proofs.lemmas.Bool.{cases_lt}
use Rattle.std.proofs.lemmas.List.{get_or_past, take_all}
use Rattle.std.proofs.lemmas.List.Sums.{sum_by_more}
use Rattle.std.proofs.lemmas.Option.{slice_get_past}
use Rattle.mp4_moof.specs.declared.trun.TrunBox.{TrunBox}
use Rattle.mp4_fragments.specs.Index.{Find, Indexes, placed_at}
use Rattle.mp4_fragments.specs.RunSamples.{PlacedRun, all_run_samples, is_sync_in, run_sample_of, run_count}
use Rattle.mp4_fragments.specs.Sync.{AreBuilt, AreSpans, sync_at}
use Rattle.mp4_fragments.specs.declared.defaults.SampleDefaults.{SampleDefaults}
use Rattle.mp4_fragments.specs.Entry.{Entry}
use Rattle.mp4_fragments.specs.declared.index.RunIndex.{RunIndex}
use Rattle.mp4_fragments.specs.declared.sync.SpanBuilder.{SpanBuilder}
use Rattle.mp4_fragments.proofs.Finding.{entry_of, length-all_run_samples, length-entries, slice_get-all_run_samples}

-- a sample after those that list their flags has the default's
pub default_sync : (run : TrunBox) (defaults : SampleDefaults) (j : ℕ) → 1 ≤ j → length run.sample_flags ≤ j
    → is_sync_in run defaults j ≡ (bit_and defaults.flags 0x10000 == 0)
default_sync run defaults zero some past = absurd (omega (arith, some))
default_sync run defaults (suc j) some past = rw (get_or_past run.sample_flags (suc j) defaults.flags past) refl

-- whether the sample of a run with a number over all runs is a sync sample
sync_in_run : (runs : List PlacedRun) (i j : ℕ) (d : PlacedRun) → i < length runs → j < run_count (get_or runs i d)
    → sync_at runs (sum_by run_count (take i runs) + j)
    ≡ is_sync_in (get_or runs i d).run (get_or runs i d).defaults j
unfolding sync_at run_sample_of
sync_in_run runs i j d h inside =
    let before = sum_by run_count (take i runs) in
    let rest : before + j - before ≡ j = omega arith in
    rw (slice_get-all_run_samples runs (before + j) i before d h refl (omega arith) (rw rest inside), rest) refl

-- none is, past all samples
pub no_sync_past : (runs : List PlacedRun) (n : ℕ) → sum_by run_count runs ≤ n → sync_at runs n ≡ false
unfolding sync_at
no_sync_past runs n past = rw
    (slice_get_past (all_run_samples runs) n (omega (arith, past, length-all_run_samples runs))) refl

-- no span is kept yet
pub none_built : (has : ℕ → Bool) (b : SpanBuilder) → b.firsts.items ≡ [] → b.lasts.items ≡ [] → b.begun ≡ None
    → b.count ≡ 0 → AreBuilt has b
none_built has b firsts lasts begun count = record {
  closed = rw (firsts, lasts, begun, count) (record {
    count = refl;
    few = omega arith;
    inside = λ i n h. absurd (omega (arith, h));
    outside = λ n h. absurd (omega (arith, h));
    ordered = λ i h. absurd (omega (arith, h));
    firsts_rise = λ i j h k. absurd (omega (arith, k));
    lasts_rise = λ i j h k. absurd (omega (arith, k));
    before = λ i h. absurd (omega (arith, h));
  });
  begun = rw begun tt;
}

-- the spans of one run more
pub entry_built : (find : Find) (es : List Entry) (runs : List PlacedRun) (index : RunIndex) (end r : ℕ)
    (entry : Entry) (old new : SpanBuilder) → Indexes find runs index → es ≡ index.entries
    → entry ≡ get_or es r entry → r < length es
    → old.end ≡ end → old.count ≡ min end (sum_by run_count (take r runs)) → AreBuilt (sync_at runs) old
    → ((p : PlacedRun) → placed_at find entry ≡ Some p → (has : ℕ → Bool) → AreBuilt has old
    → ((j : ℕ) → j < run_count p → old.count + j < new.count → has (old.count + j) ≡ is_sync_in p.run p.defaults j)
    → AreBuilt has new)
    → ((p : PlacedRun) → placed_at find entry ≡ Some p → new.count ≡ min (old.count + run_count p) old.end)
    → AreBuilt (sync_at runs) new × (new.count ≡ min end (sum_by run_count (take (r + 1) runs)))
entry_built find es [] index end r entry old new s e is h own count built made counted =
    absurd (omega (arith, h, ap (λ (xs : List Entry). length xs) e, length-entries find [] index s, s.counts.count))
entry_built find es (d ∷ rest) index end r entry old new s e is h own count built made counted =
    let runs = d ∷ rest in
    let p = get_or runs r d in
    let so_many = ap (λ (xs : List Entry). length xs) e in
    let within : r < length runs = omega (arith, h, so_many, length-entries find runs index s, s.counts.count) in
    let there : placed_at find entry ≡ Some p =
    ap (placed_at find) (is ∙ ap (λ (xs : List Entry). get_or xs r entry) e)
    ∙ entry_of find runs index r entry d s within in
    let more = sum_by_more run_count runs r d within in
    let grown = counted p there in (
      made p there (sync_at runs) built (λ j k inside.
          let at : sum_by run_count (take r runs) + j ≡ old.count + j = omega (arith, count, own, grown, inside) in
          rw at at (sync_in_run runs r j d within k)),
      omega (arith, more, grown, own, count),
    )

-- all runs are built
pub all_built : (runs : List PlacedRun) (b : SpanBuilder) (end n : ℕ) → AreBuilt (sync_at runs) b → b.begun ≡ None
    → b.count ≡ min end (sum_by run_count (take n runs)) → length runs ≤ n
    → AreSpans (sync_at runs) end b.firsts.items b.lasts.items × (length b.firsts.items ≤ length (all_run_samples runs))
all_built runs b end n built begun count all =
    let whole : take n runs ≡ runs = take_all n runs all in
    let so_many : b.count ≡ min end (sum_by run_count runs) = count ∙ ap (λ rs. min end (sum_by run_count rs)) whole in
    let spans : AreSpans (sync_at runs) b.count b.firsts.items b.lasts.items = rw begun at built.closed in (
      record {
        count = spans.count;
        few = omega (arith, spans.few, so_many);
        inside = spans.inside;
        outside = λ n h apart. ⊎_elim
            (λ (below : n < b.count). spans.outside n below apart)
            (λ (past : b.count ≤ n). no_sync_past runs n (omega (arith, so_many, past, h)))
            (cases_lt n b.count);
        ordered = spans.ordered;
        firsts_rise = spans.firsts_rise;
        lasts_rise = spans.lasts_rise;
        before = λ i h. omega (arith, spans.before i h, so_many);
      },
      omega (arith, spans.few, so_many, length-all_run_samples runs),
    )
