use Rattle.std.proofs.Common.{◌≡◌, ◌+◌, ◌-◌, ◌++◌, ◌<◌, ◌^◌, length, Result, Ok, Err, refl, ap, ◌∙◌, arith}
use Rattle.std.specs.Prelude.{OnOk}
use Rattle.mp4_mux.specs.Writing.{movie_bytes}
use Rattle.mp4_mux.specs.Parts.{unwritten, finished_buildings}
use Rattle.mp4_mux.proofs.KeptLaws.{may_be-end}
use Rattle.mp4_mux.proofs.media.Media.add_end.Goals as goal

-- what follows of two facts of an Ok answer
on_ok-both : {X E A B C : Type 0} (r : Result X E) → (A → B → C) → OnOk r A → OnOk r B → OnOk r C
on_ok-both (Ok x) f a b = f a b
on_ok-both (Err e) f a b = tt

pub put_movie-requires-clause-few : goal.put_movie-requires-clause-few
put_movie-requires-clause-few g c = rw c.as_slice-tracks.ensures.value (rw (← c.self.view_is) at c.requires.few)

pub put_movie-requires-clause-clocks : goal.put_movie-requires-clause-clocks
put_movie-requires-clause-clocks g c =
    rw c.as_slice-tracks.ensures.value (rw (← c.self.view_is) at c.requires.clocks)

pub put_movie-requires-clause-room : goal.put_movie-requires-clause-room
put_movie-requires-clause-room g c =
    omega (
      arith,
      c.in_ok-check_room.ensures.fits,
      c.len.ensures,
      c.in_ok-tail.tail.ok.0,
      ap length c.in_ok-tail.ensures,
    )

pub put_movie-requires-clause-written : goal.put_movie-requires-clause-written
put_movie-requires-clause-written g c =
    let room : c.len-end.result + length (unwritten c.as_slice-tracks.result.now) < 2 ^ 64 =
    omega (
      arith,
      c.in_ok-check_room.ensures.fits,
      c.len.ensures,
      c.in_ok-tail.tail.ok.0,
      ap length c.in_ok-tail.ensures,
    ) in
    let written = rw (← c.self.view_is) at c.requires.written in
    rw (c.len-end.ensures, c.as_slice-tracks.ensures.value)
    (written (rw (c.len-end.ensures, c.as_slice-tracks.ensures.value) at room))

pub returns-clause-ok : goal.returns-clause-ok
returns-clause-ok g c =
    let ts = c.self.inside.tracks.items in
    let len = g.S.ByteSink.len c.self.inside.sink in
    let mdat = c.args.mdat in
    let timescale = c.args.timescale in
    let pending : c.in_ok-tail.tail.items ≡ unwritten ts =
    c.in_ok-tail.ensures ∙ ap unwritten c.as_slice-tracks.ensures.value in
    let size : c.len-end.result - mdat + c.len-2.result ≡ len - mdat + length (unwritten ts) =
    omega (arith, c.len-end.ensures, c.len-2.ensures, c.in_ok-tail.tail.ok.0, ap length pending) in
    let tail : c.deref.result.now ≡ unwritten ts ++ movie_bytes timescale (finished_buildings 1 len ts) =
    rw (c.as_slice-tracks.ensures.value, c.len-end.ensures, pending)
    at (c.deref.ensures.value ∙ c.in-Ok.ensures.bytes) in
    rw (← c.self.view_is) (on_ok-both c.finish.result
    (λ long finished media h. may_be-end _ media h _ mdat timescale (c.len-end.result - mdat + c.len-2.result)
    c.deref.result.now (rw (← c.self.view_is) at c.requires.mdat) size tail long finished refl refl)
    c.finish.ensures.len c.finish.ensures.ok)
