use Rattle.mp4_codec.proofs.laws.what_is_written_reads_back.Goals as goal

pub returns : goal.returns
returns g c = λ well_formed written.
    g.met.B.WriteBox.reads_back c.args.value.now
    (record { in_range = c.in_range.ensures; well_formed = well_formed; written = written })
