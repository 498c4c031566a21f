use Rattle.std.proofs.Common.{[], append-nil, get_or, length, refl, sym, ◌∙◌, arith}
use Rattle.dn_instance.proofs.RowLinesLaws.{left_is}
use Rattle.dn_instance.proofs.RowTakes.{fewer_come}
use Rattle.dn_instance.proofs.text_so_far.TextSoFar.read_block.Goals as goal

pub returns-in-Some-body-clause-left : goal.returns-in-Some-body-clause-left
returns-in-Some-body-clause-left c ls at =
    let bytes = c.args.bytes.now in
    let rows = c.read.new.self in
    let byte = get_or bytes 0 0 in
    let read = c.read.ensures.rows in (
      read.0,
      record {
        kind = c.in-Some.kind;
        kind_is = sym c.kind.ensures ∙ c.in-Some.is;
        byte = byte;
        head_is = c.row_head-head.ensures;
        rest = bytes;
        on = record { more = []; whole = refl; inner = tt; read = rw append-nil at };
        rows_are = read.1;
        in_time = λ some.
            fewer_come c.args.self.now c.row_head-head.result (length rows) c.most.result c.read.ensures.few
            (c.most.ensures (omega (arith, some, c.read.ensures.few)));
      },
      left_is c.in-Some.kind byte bytes read.0 rows read.1,
    )
