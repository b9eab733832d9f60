use Rattle.std.proofs.Common.{refl, ap}
use Rattle.terms.specs.declared.call.Call.TheVariants.{Trade}
use Rattle.steps.specs.Steps.{posts}
use Rattle.desk.specs.Bargains.{deal_of, deal_posts, struck}
use Rattle.desk.specs.Views.{state}
use Rattle.desk.proofs.Served.{turned_away, unstruck, strikes}
use Rattle.desk.proofs.desk.Desk.trade.Goals as goal

pub returns-in_err-bargain : goal.returns-in_err-bargain
returns-in_err-bargain g c =
    let a = c.args in
    turned_away g.B.Book g.R.MarginRule a.self.now (Trade a.buyer a.seller a.series a.count a.price) _ c.from_residual.result c.from_residual.ensures.1 c.in_err-bargain.ensures

pub returns-in_err-strike : goal.returns-in_err-strike
unfolding posts
returns-in_err-strike g c =
    let a = c.args in
    let h = c.in_ok-bargain.ensures in
    let k = c.in_err-strike.ensures in
    let r = c.from_residual-in_err-strike in
    let p = ap (deal_posts (state g.B.Book g.R.MarginRule a.self.now)) h.1.0 in
    unstruck g.B.Book g.R.MarginRule a.self.now (Trade a.buyer a.seller a.series a.count a.price) (deal_of c.in_ok-bargain.bargain) h.0 p c.strike.new.self k.lent k.place _ r.result r.ensures.1 k.strikes (k.same refl)

pub returns : goal.returns
unfolding posts
returns g c =
    let s = state g.B.Book g.R.MarginRule c.args.self.now in
    let a = c.args in
    let h = c.in_ok-bargain.ensures in
    let k = c.in_ok-strike.ensures in
    strikes g.B.Book g.R.MarginRule a.self.now (Trade a.buyer a.seller a.series a.count a.price) (deal_of c.in_ok-bargain.bargain) h.0 (ap (deal_posts s) h.1.0) c.strike.new.self k.lent k.place k.strikes (ap (struck s) h.1.0) _ refl
