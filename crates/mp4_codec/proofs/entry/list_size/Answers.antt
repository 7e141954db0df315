use Rattle.std.proofs.Common.{◌≡◌, ◌*◌, length, refl}
use Rattle.std.specs.List.{flat_map}
use Rattle.mp4_codec.specs.ListLaws.{length-flat_map-same}
use Rattle.mp4_codec.proofs.entry.list_size.Goals as goal

pub returns : goal.returns
returns g c =
    let n = g.T.Entry.bytes_each c.args.version in
    let whole : length (flat_map (g.T.Entry.encoded c.args.version) c.args.items.now) ≡ length c.args.items.now * n =
    length-flat_map-same (g.T.Entry.encoded c.args.version) n (g.met.T.Entry.length_encoded c.args.version)
    c.args.items.now in
    rw (whole, c.saturating_mul.ensures, c.size.ensures) refl
