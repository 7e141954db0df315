use Rattle.std.proofs.Common.{inl, inr, arith}
use Rattle.std.proofs.lemmas.Bool.{eqb-true, eq-eqb, ltb-true, lt-ltb}
use Rattle.mp4_remux.proofs.HeaderLaws.{no_clock, some_clock}
use Rattle.mp4_remux.proofs.headers.is_rounded_up.Goals as goal

pub returns-then-clock-eq0 : goal.returns-then-clock-eq0
returns-then-clock-eq0 c = (
  λ is. inl (c.if-clock-eq0.true, eqb-true c.args.shown 0 is),
  λ is. eq-eqb c.args.shown 0 (no_clock c.args.duration c.args.clock c.args.other c.args.shown c.if-clock-eq0.true is),
)

pub returns-then-track-media : goal.returns-then-track-media
returns-then-track-media c = (
  λ is. absurd cc,
  λ is.
      let both = some_clock c.args.duration c.args.clock c.args.other c.args.shown c.if-clock-eq0.false is in
      let less = rw (c.from.ensures, c.from-2.ensures, c.from-3.ensures, c.from-clock.ensures) at
      c.if-track-media.true in
      absurd (omega (arith, both.0, less)),
)

pub returns : goal.returns
returns c = (
  λ is.
      inr (
        rw (c.from.ensures, c.from-2.ensures, c.from-3.ensures, c.from-clock.ensures) at c.if-track-media.false,
        rw (c.from.ensures, c.from-2.ensures, c.from-3.ensures, c.from-clock.ensures) at (ltb-true _ _ is),
      ),
  λ is.
      rw (c.from.ensures, c.from-2.ensures, c.from-3.ensures, c.from-clock.ensures) (lt-ltb _ _
      (some_clock c.args.duration c.args.clock c.args.other c.args.shown c.if-clock-eq0.false is).1),
)
