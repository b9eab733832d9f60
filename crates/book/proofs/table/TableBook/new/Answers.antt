use Rattle.std.proofs.Common.{refl}
use Rattle.book.proofs.Bounds.{replicate_bounded}
use Rattle.book.proofs.table.TableBook.new.Goals as goal

pub invariant_of-result : goal.invariant_of-result
invariant_of-result c = record { accounts = refl; bounded = replicate_bounded 64 _ refl }
