use Rattle.std.proofs.Common.{◌≡◌, ℕ, ◌+◌, ◌-◌, ◌*◌, get_or, take, pos, Err, sym, refl, ap, ◌∙◌, subst, arith, w64, SFits, rules}
use Rattle.std.proofs.lemmas.List.{take_all}
use Rattle.std.proofs.lemmas.Int.{to_z-of_z}
use Rattle.book.specs.Balances.{of_account, total}
use Rattle.book.specs.Postings.{added, postings, post_answer, posted_to}
use Rattle.book.proofs.Added.{added_none, of_account_added, total_added}
use Rattle.book.proofs.Turns.{Made, nonzero, is_zero, passed, posted, accepted}
use Rattle.book.proofs.posting.make_all.Goals as goal
use Rattle.book.proofs.posting.make_all.Goals.{then-amount-ne0+in_ok-post, else-amount-ne0}

pub loop-i-init : goal.loop-i-init
loop-i-init g c = (record { added_so_far = sym (added_none _); taken_so_far = omega arith }, g.B.Book.laws.stays _)

pub returns-in_err-post : goal.returns-in_err-post
returns-in_err-post g c =
    let m = g.B.Book in
    let i = c.loop-i.i in
    let ms = c.args.amounts.now in
    let a = get_or ms i (pos 0) in
    let b₀ = c.args.book.now in
    let b = c.loop-i.book in
    let fits : SFits w64 a = search rules in
    let p = c.in_err-post.ensures in
    let told : Err c.in_err-post.field-0.0 ≡ post_answer (m.balances b) (m.lines b) g.B.Book.COST (i + 1) a = simp to_z-of_z at p.answer in
    let ok = accepted (m.balances b₀) ms (m.lines b₀) g.B.Book.COST c.told-amounts i c.loop-i-test.true
    (m.laws.accounts b₀) c.requires.inside c.requires.paid
    (m.balances b) (m.lines b) c.loop-i.invariant.0 (nonzero a c.if-amount-ne0.true) in
    let z : ◌≡◌ {A = ℕ} 0 1 = cc in
    absurd (omega arith)

pub loop-i-preserved : goal.loop-i-preserved
loop-i-preserved g c =
    let m = g.B.Book in
    let i = c.loop-i.i in
    let ms = c.args.amounts.now in
    let a = get_or ms i (pos 0) in
    let b₀ = c.args.book.now in
    let b = c.loop-i.book in
    let b' = c.if-amount-ne0.book in
    let inv = c.loop-i.invariant in
    let fits : SFits w64 a = search rules in
    elim c.if-amount-ne0.branch [
      | then-amount-ne0+in_ok-post w ↦
          let p = w.in_ok-post.ensures in
          let after : m.balances b' ≡ posted_to (m.balances b) (i + 1) a = ap m.balances w.book-is ∙ simp to_z-of_z at p.after in
          let spent : m.lines b' ≡ m.lines b - g.B.Book.COST = cc (w.book-is, p.spent) in
          let next = posted (m.balances b₀) ms (m.lines b₀) g.B.Book.COST c.told-amounts i c.loop-i-test.true
          (m.laws.accounts b₀) c.requires.inside c.requires.paid
          (m.balances b) (m.lines b) inv.0 (nonzero a w.if-amount-ne0.true)
          (m.balances b') (m.lines b') after spent in
          (next, m.laws.joins b₀ b b' inv.1 (subst (m.kept b) (sym w.book-is) p.place))
      | else-amount-ne0 w ↦
          let next = passed (m.balances b₀) ms (m.lines b₀) g.B.Book.COST c.told-amounts i c.loop-i-test.true
          (m.balances b) (m.lines b) inv.0
          (is_zero a fits w.if-amount-ne0.false) in
          (subst (λ x. Made (m.balances b₀) (m.lines b₀) g.B.Book.COST ms (i + 1) (m.balances x) (m.lines x)) (sym w.book-is) next, subst (m.kept b₀) (sym w.book-is) inv.1)
    ]

pub returns : goal.returns
returns g c =
    let m = g.B.Book in
    let ms = c.args.amounts.now in
    let b₀ = c.args.book.now in
    let b = c.loop-i.book in
    let made = c.loop-i.invariant.0 in
    let long = m.laws.accounts b₀ in
    let whole : take c.loop-i.i ms ≡ ms = take_all c.loop-i.i ms (omega arith) in
    let sums : m.balances b ≡ added (m.balances b₀) ms = made.added_so_far ∙ ap (added (m.balances b₀)) whole in
    let taken : m.lines b + g.B.Book.COST * postings ms ≡ m.lines b₀ = ap (λ l. m.lines b + g.B.Book.COST * postings l) (sym whole) ∙ made.taken_so_far in
    record {
      made = refl;
      after = sums;
      spent = omega arith;
      place = c.loop-i.invariant.1;
      each = λ n. ap (λ l. of_account l n) sums ∙ of_account_added (m.balances b₀) ms long n;
      sum = ap total sums ∙ total_added (m.balances b₀) ms (omega (arith, c.told-amounts));
    }
