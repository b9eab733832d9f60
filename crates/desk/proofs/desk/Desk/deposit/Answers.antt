use Rattle.std.proofs.Common.{refl, arith}
use Rattle.std.proofs.lemmas.Int.{ints}
use Rattle.terms.specs.declared.call.Call.TheVariants.{Deposit}
use Rattle.desk.specs.Views.{state}
use Rattle.desk.proofs.Posts.{posts_alone}
use Rattle.desk.proofs.Served.{turned_away, unposted, posted}
use Rattle.desk.proofs.desk.Desk.deposit.Goals as goal

pub returns-in_err-payer : goal.returns-in_err-payer
returns-in_err-payer g c =
    let call = Deposit c.args.account c.args.amount in
    turned_away g.B.Book g.R.MarginRule c.args.self.now call _ c.from_residual.result c.from_residual.ensures.1 c.in_err-payer.ensures

pub returns-in_err-post_all : goal.returns-in_err-post_all
returns-in_err-post_all g c =
    let s = state g.B.Book g.R.MarginRule c.args.self.now in
    let call = Deposit c.args.account c.args.amount in
    let h = c.in_ok-payer.ensures in
    let a = c.in_err-post_all.ensures in
    let r = c.from_residual-in_err-post_all in
    let p = posts_alone s call c.for_one-amounts.ensures h.1.0 (omega (arith, ints, c.get.ensures, h.1.1)) refl in
    unposted g.B.Book g.R.MarginRule c.args.self.now call h.0 c.for_one-amounts.result p _ (a.whole refl) a.place _ r.result r.ensures.1 a.answer

pub returns : goal.returns
returns g c =
    let s = state g.B.Book g.R.MarginRule c.args.self.now in
    let call = Deposit c.args.account c.args.amount in
    let h = c.in_ok-payer.ensures in
    let a = c.in_ok-post_all.ensures in
    let p = posts_alone s call c.for_one-amounts.ensures h.1.0 (omega (arith, ints, c.get.ensures, h.1.1)) refl in
    posted g.B.Book g.R.MarginRule c.args.self.now call h.0 c.for_one-amounts.result p _ a.answer a.after a.spent a.place 0 refl _ refl _ refl
