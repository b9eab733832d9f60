use Rattle.std.proofs.Common.{◌≡◌, refl}
use Rattle.terms.specs.declared.call.Call.TheVariants.{Cover}
use Rattle.steps.specs.Steps.{posts}
use Rattle.desk.specs.Views.{state}
use Rattle.desk.proofs.Posts.{transfers}
use Rattle.desk.proofs.Served.{turned_away, unposted, posted}
use Rattle.desk.proofs.desk.Desk.cover.Goals as goal

pub returns-in_err-payment : goal.returns-in_err-payment
returns-in_err-payment g c =
    turned_away g.B.Book g.R.MarginRule c.args.self.now (Cover c.args.customer) _ c.from_residual.result c.from_residual.ensures.1 c.in_err-payment.ensures

pub returns-in_err-post_all : goal.returns-in_err-post_all
returns-in_err-post_all g c =
    let s = state g.B.Book g.R.MarginRule c.args.self.now in
    let call = Cover c.args.customer in
    let h = c.in_ok-payment.ensures in
    let a = c.in_err-post_all.ensures in
    let r = c.from_residual-in_err-post_all in
    let p : c.for_transfer-amounts.result ≡ posts s call = transfers s c.args.customer h.1.0 h.1.1 h.1.2 c.for_transfer-amounts.ensures in
    unposted g.B.Book g.R.MarginRule c.args.self.now call h.0 c.for_transfer-amounts.result p _ (a.whole refl) a.place _ r.result r.ensures.1 a.answer

pub returns : goal.returns
returns g c =
    let s = state g.B.Book g.R.MarginRule c.args.self.now in
    let call = Cover c.args.customer in
    let h = c.in_ok-payment.ensures in
    let a = c.in_ok-post_all.ensures in
    let p : c.for_transfer-amounts.result ≡ posts s call = transfers s c.args.customer h.1.0 h.1.1 h.1.2 c.for_transfer-amounts.ensures in
    posted g.B.Book g.R.MarginRule c.args.self.now call h.0 c.for_transfer-amounts.result p _ a.answer a.after a.spent a.place _ h.1.2 _ refl _ refl
