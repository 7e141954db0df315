use Rattle.mp4_meta.proofs.Numerals.{year-parsed, year-refused, year-not_text}
use Rattle.mp4_meta.proofs.metadata.number_of_text.Goals as goal

pub returns-in-Ok-parse : goal.returns-in-Ok-parse
returns-in-Ok-parse c =
    rw (← c.in-Ok.ensures.cases.0) (year-parsed c.in-Ok.text.now c.in-Ok-parse.year c.in-Ok-parse.ensures.value.0)

pub returns-in-Err-parse : goal.returns-in-Err-parse
returns-in-Err-parse c =
    rw (← c.in-Ok.ensures.cases.0)
    (year-refused c.in-Ok.text.now c.in-Err-parse.field-0 c.in-Err-parse.ensures.value.0)

pub returns-in-Err : goal.returns-in-Err
returns-in-Err c = year-not_text c.args.bytes.now c.in-Err.ensures.cases.0
