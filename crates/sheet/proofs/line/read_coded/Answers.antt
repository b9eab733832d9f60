use Rattle.std.proofs.Common.{sym}
use Rattle.sheet.proofs.Lines.{small}
use Rattle.sheet.proofs.line.read_coded.Goals as goal

pub call-requires : goal.call-requires
call-requires c = small _ c.args.rest.now c.in_ok-fields.fields (sym c.in_ok-fields.ensures)
