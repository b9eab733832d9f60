use Rattle.std.proofs.Common.{◌≡◌, refl}
use Rattle.terms.specs.declared.call.Call.TheVariants.{Mark}
use Rattle.steps.specs.Steps.{posts}
use Rattle.desk.specs.Views.{state}
use Rattle.desk.proofs.Marks.{mark_posts, marked}
use Rattle.desk.proofs.Served.{turned_away, unposted, posted}
use Rattle.desk.proofs.desk.Desk.mark.Goals as goal

pub returns-in_err-number : goal.returns-in_err-number
returns-in_err-number g c =
    turned_away g.B.Book g.R.MarginRule c.args.self.now (Mark c.args.series c.args.price) _ c.from_residual.result c.from_residual.ensures.1 c.in_err-number.ensures

pub returns-in_err-post_all : goal.returns-in_err-post_all
returns-in_err-post_all g c =
    let s = state g.B.Book g.R.MarginRule c.args.self.now in
    let call = Mark c.args.series c.args.price in
    let h = c.in_ok-number.ensures in
    let a = c.in_err-post_all.ensures in
    let r = c.from_residual-in_err-post_all in
    let p : c.for_holders-amounts.result ≡ posts s call = mark_posts s h.1.0 h.1.1 call _ c.get.ensures c.for_holders-amounts.ensures refl in
    unposted g.B.Book g.R.MarginRule c.args.self.now call h.0 c.for_holders-amounts.result p _ (a.whole refl) a.place _ r.result r.ensures.1 a.answer

pub returns : goal.returns
returns g c =
    let s = state g.B.Book g.R.MarginRule c.args.self.now in
    let call = Mark c.args.series c.args.price in
    let h = c.in_ok-number.ensures in
    let a = c.in_ok-post_all.ensures in
    let p : c.for_holders-amounts.result ≡ posts s call = mark_posts s h.1.0 h.1.1 call _ c.get.ensures c.for_holders-amounts.ensures refl in
    posted g.B.Book g.R.MarginRule c.args.self.now call h.0 c.for_holders-amounts.result p _ a.answer a.after a.spent a.place 0 refl _ refl c.mark.new.self (marked s h.1.0 h.1.1 c.mark.ensures)
