use Rattle.std.proofs.Common.{◌≡◌, Ok, Err, rules}
use Rattle.terms.specs.declared.fault.Fault.TheVariants.{OutOfBounds, NoLines}
use Rattle.book.specs.Postings.{all_answer}
use Rattle.book.proofs.Reasons.{reason}
use Rattle.book.proofs.posting.test_all.Goals as goal

pub returns-in-Some : goal.returns-in-Some
returns-in-Some g c =
    let m = g.B.Book in
    let b = c.args.book.now in
    let e : Err (OutOfBounds c.in-Some.account) ≡ all_answer (m.balances b) (m.lines b) g.B.Book.COST c.args.amounts.now = search rules in
    record { answer = e; reason = reason _ _ _ _ (m.laws.accounts b) c.told-amounts (m.laws.bounded b) _ e }

pub returns-then-lines_left-COST : goal.returns-then-lines_left-COST
returns-then-lines_left-COST g c =
    let m = g.B.Book in
    let b = c.args.book.now in
    let e : Err NoLines ≡ all_answer (m.balances b) (m.lines b) g.B.Book.COST c.args.amounts.now = search rules in
    record { answer = e; reason = reason _ _ _ _ (m.laws.accounts b) c.told-amounts (m.laws.bounded b) _ e }

pub returns : goal.returns
returns g c =
    let m = g.B.Book in
    let b = c.args.book.now in
    let e : Ok tt ≡ all_answer (m.balances b) (m.lines b) g.B.Book.COST c.args.amounts.now = search rules in
    record { answer = e; reason = reason _ _ _ _ (m.laws.accounts b) c.told-amounts (m.laws.bounded b) _ e }
