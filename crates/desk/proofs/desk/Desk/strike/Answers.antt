use Rattle.std.proofs.Common.{◌-◌, ◌*◌, sym, refl, ap, ◌∙◌, rules}
use Rattle.book.specs.Postings.{added, postings}
use Rattle.steps.specs.Refusals.{of_book, book_refuses}
use Rattle.tables.specs.Views.{customers_of}
use Rattle.desk.specs.Bargains.{deal_of}
use Rattle.desk.specs.Views.{state}
use Rattle.desk.proofs.Bargains.{shared, unposted, both_held}
use Rattle.desk.proofs.Steps.{same_desk}
use Rattle.desk.proofs.desk.Desk.strike.Goals as goal

pub returns-in_err-post_all : goal.returns-in_err-post_all
returns-in_err-post_all g c =
    let s = state g.B.Book g.R.MarginRule c.args.self.now in
    let x = c.args.bargain in
    let a = c.in_err-post_all.ensures in
    let d = c.deal-shares.ensures in
    let p = shared s (deal_of x) c.deal-shares.result c.for_deal-amounts.ensures d.buyer d.seller d.house c.get.ensures in
    let same = same_desk c.args.self.now c.post_all.new.book (a.whole refl) in
    record {
      strikes = unposted s _ (deal_of x) _ c.from_residual.result c.from_residual.ensures.1 (ap (book_refuses s) (sym p) ∙ ap of_book (sym a.answer)) (ap (state g.B.Book g.R.MarginRule) same);
      lent = refl;
      place = a.place;
      same = λ _. same;
    }

pub returns : goal.returns
returns g c =
    let s = state g.B.Book g.R.MarginRule c.args.self.now in
    let x = c.args.bargain in
    let a = c.in_ok-post_all.ensures in
    let d = c.deal-shares.ensures in
    let p = shared s (deal_of x) c.deal-shares.result c.for_deal-amounts.ensures d.buyer d.seller d.house c.get.ensures in
    let held = both_held s x c.requires (customers_of c.hold.new.self) (customers_of c.hold-2.new.self) c.hold.ensures c.hold-2.ensures in
    record {
      strikes = (
        ap (book_refuses s) (sym p) ∙ ap of_book (sym a.answer),
        λ i. record {
          phase = s.phase;
          customers = held i;
          series = s.series;
          balances = (a.after ∙ ap (added s.balances) p) i;
          lines = (a.spent ∙ ap (λ ms. s.lines - s.cost * postings ms) p) i;
          cost = s.cost;
          rule = s.rule;
        },
      );
      lent = refl;
      place = a.place;
      same = search rules;
    }
