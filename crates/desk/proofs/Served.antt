-- What a call is to the desk, by the way that it ends.
use Rattle.std.proofs.Common.{◌≡◌, ℕ, ◌-◌, ◌*◌, List, [], ◌∷◌, map, ℤ, pos, IsErrAnd, None, Some, Ok, Err, Result, refl, ap, ◌∙◌, rules}
use Rattle.std.specs.List.{range_with_len}
use Rattle.terms.specs.declared.call.Call.{Call}
use Rattle.terms.specs.declared.fault.Fault.{Fault}
use Rattle.book.specs.Postings.{added, postings, all_answer}
use Rattle.book.specs.declared.kind.Book.{Ghosts as BookGhosts}
use Rattle.margin.specs.declared.rule.MarginRule.{Ghosts as RuleGhosts}
use Rattle.steps.specs.State.{house}
use Rattle.steps.specs.Deals.{Deal}
use Rattle.steps.specs.Refusals.{first, room_refusals}
use Rattle.steps.specs.Steps.{post, posts, moved, figure, phase_after, customers_after, series_after}
use Rattle.tables.specs.declared.customers.Customers.{Customers}
use Rattle.tables.specs.declared.series_table.SeriesTable.{SeriesTable}
use Rattle.tables.specs.Views.{customers_of, all_series_of}
use Rattle.desk.specs.declared.desk.Desk.{Desk}
use Rattle.desk.specs.Bargains.{Strikes, deal_posts, struck}
use Rattle.desk.specs.Served.{Served}
use Rattle.desk.specs.Views.{state}
use Rattle.desk.proofs.Quiet.{quiet}
use Rattle.desk.proofs.Steps.{same_desk, handed, asks_book, refused, declined, done}

module _ {B R : Type 0} (book : BookGhosts B) (rule : RuleGhosts R) (d : Desk B R) (c : Call) where
  -- a test of the room refuses
  pub turned_away : (f : Fault) (r : Result ℕ Fault) → IsErrAnd r (λ x. x ≡ f) → first (room_refusals (state book rule d) c) ≡ Some f → Served book rule d c r d
  turned_away f r b e =
      record {
        moves = refused (state book rule d) c f r b e;
        lent = refl;
        place = book.laws.stays d.book.now;
        same = λ _. refl;
      }

  -- the book refuses
  pub unposted : first (room_refusals (state book rule d) c) ≡ None → (ms : List ℤ) → ms ≡ posts (state book rule d) c → (b : B) → b ≡ d.book.now → book.kept d.book.now b → (f : Fault) (r : Result ℕ Fault) → IsErrAnd r (λ x. x ≡ f) → Err f ≡ all_answer (book.balances d.book.now) (book.lines d.book.now) book.COST ms → Served book rule d c r (record { phase = d.phase; customers = d.customers; series = d.series; book = record { ref_ptr = d.book.ref_ptr; ghost_name = d.book.ghost_name; now = b }; rule = d.rule })
  unposted e ms p b whole place f r by answer =
      let same = same_desk d b whole in
      record {
        moves = declined (state book rule d) c e ms p _ f r by answer (ap (state book rule) same);
        lent = refl;
        place = place;
        same = λ _. same;
      }

  -- nothing is posted
  pub quietly : first (room_refusals (state book rule d) c) ≡ None → map (post (state book rule d) c) (range_with_len 1 house) ≡ map (λ _. pos 0) (range_with_len 1 house) → (n : ℕ) → n ≡ figure (state book rule d) c → (cs : Customers) → customers_of cs ≡ customers_after (state book rule d) c → (ss : SeriesTable) → all_series_of ss ≡ series_after (state book rule d) c → Served book rule d c (Ok n) (record { phase = phase_after (state book rule d) c; customers = cs; series = ss; book = d.book; rule = d.rule })
  quietly e p n is cs x ss y =
      let q = quiet (state book rule d) c (book.laws.bounded d.book.now) e p (customers_of cs) (all_series_of ss) x y in
      record {
        moves = (q.0, is, q.2);
        lent = refl;
        place = book.laws.stays d.book.now;
        same = search rules;
      }

  -- all is posted, and the tables changed
  pub posted : first (room_refusals (state book rule d) c) ≡ None → (ms : List ℤ) → ms ≡ posts (state book rule d) c → (b : B) → Ok tt ≡ all_answer (book.balances d.book.now) (book.lines d.book.now) book.COST ms → book.balances b ≡ added (book.balances d.book.now) ms → book.lines b ≡ book.lines d.book.now - book.COST * postings ms → book.kept d.book.now b → (n : ℕ) → n ≡ figure (state book rule d) c → (cs : Customers) → customers_of cs ≡ customers_after (state book rule d) c → (ss : SeriesTable) → all_series_of ss ≡ series_after (state book rule d) c → Served book rule d c (Ok n) (record { phase = phase_after (state book rule d) c; customers = cs; series = ss; book = record { ref_ptr = d.book.ref_ptr; ghost_name = d.book.ghost_name; now = b }; rule = d.rule })
  posted e ms p b answer after spent place n is cs x ss y =
      let m = done (state book rule d) c e ms p (customers_of cs) (all_series_of ss) (book.balances b) (book.lines b) answer x y after spent in
      record {
        moves = (m.0, is, m.2);
        lent = refl;
        place = place;
        same = search rules;
      }

  -- the call comes to a deal
  module _ (x : Deal) (e : first (room_refusals (state book rule d) c) ≡ None) (p : deal_posts (state book rule d) x ≡ posts (state book rule d) c) (to : Desk B R) (lent : to.book.ghost_name ≡ d.book.ghost_name) (place : book.kept d.book.now to.book.now) where
    -- that is not struck
    pub unstruck : (f : Fault) (r : Result ℕ Fault) → IsErrAnd r (λ x. x ≡ f) → Strikes (state book rule d) x (Err f) (state book rule to) → to ≡ d → Served book rule d c r to
    unstruck f r b k same =
        record {
          moves = handed (state book rule d) (state book rule to) c f r b (asks_book (state book rule d) c e (deal_posts (state book rule d) x) p ∙ ap (λ o. first (o ∷ [])) k.0) k.1;
          lent = lent;
          place = place;
          same = λ _. same;
        }

    -- that is struck
    pub strikes : Strikes (state book rule d) x (Ok tt) (state book rule to) → struck (state book rule d) x ≡ moved (state book rule d) c → (n : ℕ) → n ≡ figure (state book rule d) c → Served book rule d c (Ok n) to
    strikes k m n is =
        record {
          moves = (asks_book (state book rule d) c e (deal_posts (state book rule d) x) p ∙ ap (λ o. first (o ∷ [])) k.0, is, k.1 ∙ m);
          lent = lent;
          place = place;
          same = search rules;
        }
