-- The law of positions, over a run.
use Rattle.std.proofs.Common.{◌≡◌, ℕ, ◌-◌, Bool, true, false, cond, List, [], ◌∷◌, ◌++◌, length, get_or, pos, None, Ok, Err, sym, ap, ◌∙◌, subst}
use lib.ListN.{length-replicate}
use Rattle.std.specs.List.{range_with_len}
use Rattle.std.specs.Option.{option_to_list}
use Rattle.std.proofs.ByRecursion.{All-append}
use Rattle.std.proofs.lemmas.List.{get_or-replicate}
use Rattle.terms.specs.declared.call.Call.{Call}
use Rattle.terms.specs.declared.call.Call.TheVariants as call
use Rattle.steps.specs.State.{State, customers, all_series, no_customer, no_series, is_series, position, series_at}
use Rattle.steps.specs.Deals.{Deal}
use Rattle.steps.specs.Steps.{refusal, next, moved, answer}
use Rattle.runs.specs.Runs.{Event, New, Run, new, more}
use Rattle.runs.specs.Trading.{net, ended, deal_by, deals, TradeLaw}
use Rattle.runs.proofs.Bought.{Sound, Explained, explained_moved, all_moved, trade_fits, force_fits}
use Rattle.runs.proofs.Counts.{all_customers}
use Rattle.runs.proofs.Flags.{seat, positions_lifted, wide_lifted}
use Rattle.runs.proofs.Ledgers.{over, over_same, over_none, Parties, net_level, level_from}
use Rattle.runs.proofs.Limits.{limits}
use Rattle.runs.proofs.Rows.{Full, Fits, place, full_new, no_positions, full_moved, full_lifted}

-- the parties of the deal that an accepted call makes are customers
parties_of : (s : State) (d : Deal) → Fits s d → Parties (d ∷ [])
parties_of s d fits = ((fits.buyer, fits.seller), tt)

parties_in : (s : State) (c : Call) → refusal s c ≡ None → Parties (option_to_list (deal_by s c (answer s c)))
parties_in s call.Begin fits = tt
parties_in s (call.Enrol c b) fits = tt
parties_in s (call.List size limit i price fee) fits = tt
parties_in s (call.Deposit n a) fits = tt
parties_in s (call.Withdraw n a) fits = tt
parties_in s (call.Trade b o i n q) fits = parties_of s _ (trade_fits s b o i n q fits)
parties_in s call.Late fits = tt
parties_in s call.Shut fits = tt
parties_in s (call.Mark i q) fits = tt
parties_in s (call.Final i q) fits = tt
parties_in s (call.Force c o i offer q) fits = parties_of s _ (force_fits s c o i offer q fits)
parties_in s (call.Cover c) fits = tt
parties_in s call.Notices fits = tt

-- what is kept along a run
pub record Ledger (s : State) (ds : List Deal) : Type 0 where
  pub sound : Sound s
  pub said : Explained s ds
  pub parties : Parties ds

ledger_new : (s : State) → New s → Ledger s []
ledger_new s n =
    record {
      sound = record {
        wide = ap length n.nobody ∙ length-replicate customers no_customer;
        full = subst Full (sym n.nobody) (full_new customers);
        all = ap length n.nothing ∙ length-replicate all_series no_series;
      };
      said = λ k j is series.
          ap (λ cs. get_or (get_or cs (k - 1) no_customer).positions (j - 1) (pos 0)) n.nobody
          ∙ ap (λ c. get_or c.positions (j - 1) (pos 0)) (get_or-replicate customers (k - 1) no_customer no_customer (seat k is).1)
          ∙ no_positions (j - 1)
          ∙ sym (ap (λ ss. cond (ended (get_or ss (j - 1) no_series).stage) (pos 0) (pos 0)) n.nothing ∙ ap (λ x. cond (ended x.stage) (pos 0) (pos 0)) (get_or-replicate all_series (j - 1) no_series no_series (place j series).1));
      parties = tt;
    }

ledger_next : (s : State) (c : Call) (ds : List Deal) → Ledger s ds → refusal s c ≡ None → Ledger (next s c) (option_to_list (deal_by s c (answer s c)) ++ ds)
ledger_next s c ds l fits =
    let after = explained_moved s l.sound ds l.said c fits in
    record {
      sound = record {
        wide = wide_lifted (moved s c);
        full = full_lifted (moved s c) (full_moved s l.sound.full c);
        all = all_moved s l.sound ds l.said c;
      };
      said = λ n j is series. ap (λ ps. get_or ps (j - 1) (pos 0)) (positions_lifted (moved s c) n is) ∙ after n j is series;
      parties = All-append _ (option_to_list (deal_by s c (answer s c))) ds (parties_in s c fits) l.parties;
    }

pub ledger : {h : List Event} {s : State} (r : Run h s) → Ledger s (deals h s r)
ledger (new {s = s} n) = ledger_new s n
ledger (more {h = h} {s = s} {s' = s'} c (Ok a) r d) =
    subst (λ x. Ledger x (option_to_list (deal_by s c a) ++ deals h s r)) (sym d.2)
    (subst (λ x. Ledger (next s c) (option_to_list (deal_by s c x) ++ deals h s r)) (sym d.1) (ledger_next s c (deals h s r) (ledger r) d.0))
ledger (more {h = h} {s = s} {s' = s'} c (Err f) r d) = subst (λ x. Ledger x (deals h s r)) (sym d.1) (ledger r)

-- longs equal shorts
pub net_nought : (s : State) (ds : List Deal) → Ledger s ds → (i : ℕ) → is_series i ≡ true → over (λ n. position s n i) (range_with_len 1 customers) ≡ pos 0
net_nought s ds l i series =
    over_same (λ n. position s n i) (λ n. cond (ended (series_at s i).stage) (pos 0) (net n i ds)) (range_with_len 1 customers) (all_customers _ (λ n is. l.said n i is series))
    ∙ by (ended (series_at s i).stage)
  where
    by : (b : Bool) → over (λ n. cond b (pos 0) (net n i ds)) (range_with_len 1 customers) ≡ pos 0
    by true = over_none (range_with_len 1 customers)
    by false = net_level i ds l.parties

pub trade_law : TradeLaw
trade_law h s r =
    let l = ledger r in
    record {
      positions = l.said;
      level = λ i series. level_from (λ n. position s n i) (range_with_len 1 customers) (net_nought s (deals h s r) l i series);
      within = λ n i is series. (limits r).rows (n - 1) (i - 1);
    }
