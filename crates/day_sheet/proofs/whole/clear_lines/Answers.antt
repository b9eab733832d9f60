use Rattle.std.proofs.Common.{◌≡◌, ◌+◌, ◌*◌, ◌/◌, [], ◌∷◌, ◌++◌, length, drop, vec_items, sym, refl, ap, ◌∙◌, subst, arith}
use Rattle.std.specs.Iterator.Adapters.{enumerate_source, enumerate_count}
use Rattle.std.specs.Slice.Iter.{chunks_exact_rest, chunks_exact_size}
use Rattle.std.proofs.lemmas.List.{length-drop}
use Rattle.sheet.specs.Cuts.{lines_of}
use Rattle.clearing.specs.Made.{state_of}
use Rattle.runs.proofs.Laws.{law}
use Rattle.day_sheet.proofs.Pages.{Page, page_none, page_more, line_cut, as_many, run_through}
use Rattle.day_sheet.proofs.whole.clear_lines.Goals as goal

pub loop-index-init : goal.loop-index-init
loop-index-init g c =
    let s = state_of g.B.Book g.R.MarginRule c.args.room.now in
    let it = c.into_iter-index-iterator.result in
    let none : enumerate_count it ≡ 0 = cc in
    let wide : chunks_exact_size (enumerate_source it) ≡ 50 = cc in
    let rest : chunks_exact_rest (enumerate_source it) ≡ c.args.sheet.now = cc in (
      [],
      page_none s c.args.sheet.now (vec_items c.args.page.now) (enumerate_count it) none c.requires.empty.0,
      c.requires.empty.1 ∙ omega (arith, none),
      omega arith,
      refl,
      g.B.Book.laws.stays _,
      wide,
      rest ∙ ap (λ k. drop (k * 50) c.args.sheet.now) (sym none),
      omega (arith, none),
    )

pub loop-index-preserved : goal.loop-index-preserved
loop-index-preserved g c =
    let s = state_of g.B.Book g.R.MarginRule c.args.room.now in
    let m = state_of g.B.Book g.R.MarginRule c.loop-index.room in
    let o = c.carry_line-outcome in
    let to = state_of g.B.Book g.R.MarginRule o.new.room in
    let sheet = c.args.sheet.now in
    let i = enumerate_count c.loop-index.index-iterator in
    let j = enumerate_count c.next.new.self in
    let v = c.loop-index.invariant in
    let e = c.in-Some.ensures.steps in
    let line = c.in-Some.line.now in
    let cut = line_cut i j sheet _ line (chunks_exact_rest (enumerate_source c.next.new.self)) e.2 v.7 e.0.1.0 (e.0.1.1 ∙ v.6) in
    let fit = o.ensures.fit (c.in-Some.index + 1) (omega (arith, c.requires.few, cut.2, e.1, e.2)) in
    let p = c.print_line.ensures in (
      v.0 ++ o.result ∷ [],
      page_more s m to sheet i j c.in-Some.index v.0 (vec_items c.loop-index.page) (vec_items c.print_line.new.page) line o.result e.2 e.1 v.1 cut.0 o.ensures.step fit p.items,
      omega (arith, p.len, v.2, e.2),
      omega (arith, p.capacity, v.3),
      o.ensures.lent ∙ v.4,
      g.B.Book.laws.joins _ _ _ v.5 o.ensures.place,
      e.0.0 ∙ v.6,
      cut.1,
      cut.2,
    )

pub returns : goal.returns
returns g c =
    let s = state_of g.B.Book g.R.MarginRule c.args.room.now in
    let to = state_of g.B.Book g.R.MarginRule c.loop-index.room in
    let sheet = c.args.sheet.now in
    let i = enumerate_count c.loop-index.index-iterator in
    let v = c.loop-index.invariant in
    let all : i ≡ length sheet / 50 = omega (arith, c.in-None.ensures.steps.0.1.0, v.6, ap length v.7, length-drop (i * 50) sheet, v.8) in
    let page = subst (λ n. Page s sheet n v.0 (vec_items c.loop-index.page) to) all v.1 in
    let lines = lines_of (length sheet / 50) sheet in
    record {
      outcomes = v.0;
      each = as_many lines v.0 s to page.steps;
      steps = page.steps;
      shown = page.shown;
      fit = page.fit;
      law = λ h r. let run = run_through lines v.0 s to h page.steps r in (run, law _ _ run);
      lent = v.4;
      place = v.5;
    }
