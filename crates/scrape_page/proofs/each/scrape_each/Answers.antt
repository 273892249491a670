use Rattle.std.proofs.Common.{List, [], take, set, length, ◌+◌, ◌<◌, ◌≤◌, refl, sym, subst, arith, inl, inr}
use Rattle.std.proofs.lemmas.List.{take_all}
use Rattle.expo_text.specs.Scraped.{Scraped}
use Rattle.scrape_server.specs.Again.{AsksAgain}
use Rattle.scrape_page.specs.Scraping.{AreMade}
use Rattle.scrape_page.proofs.Turns.{still_behind, made_more, stopped}
use Rattle.scrape_page.proofs.each.scrape_each.Goals as goal

pub loop-at-init : goal.loop-at-init
loop-at-init g c = record {
  len = refl;
  count = c.in-Ok.ensures.len;
  room = let count = c.len.ensures in let room = c.in-Ok.ensures.capacity in omega (arith, count, room);
  each = subst (λ (l : List Scraped). AreMade (AsksAgain g.X.MakesScrapes.made g.X.MakesScrapes.again) [] [] l)
      (sym c.in-Ok.ensures.items) tt;
  rest = refl;
}

pub index_mut-requires : goal.index_mut-requires
index_mut-requires g c =
    let lt = c.loop-at-test.true in let end = c.len-at-end.ensures in let same = c.loop-at.invariant.len in
    omega (arith, lt, end, same)

pub push_reserved-requires : goal.push_reserved-requires
push_reserved-requires g c =
    let lt = c.loop-at-test.true in let end = c.len-at-end.ensures in
    let count = c.loop-at.invariant.count in let room = c.loop-at.invariant.room in omega (arith, lt, end, count, room)

pub returns-in_default-clause-each : goal.returns-in_default-clause-each
returns-in_default-clause-each g c = tt

pub returns-in_default-clause-stopped : goal.returns-in_default-clause-stopped
returns-in_default-clause-stopped g c = inl (refl, refl)

pub returns-in-Err-clause-each : goal.returns-in-Err-clause-each
returns-in-Err-clause-each g c = tt

pub returns-in-Err-clause-stopped : goal.returns-in-Err-clause-stopped
returns-in-Err-clause-stopped g c =
    let lt = c.loop-at-test.true in let end = c.len-at-end.ensures in let same = c.loop-at.invariant.len in
    inr (stopped (AsksAgain g.X.MakesScrapes.made g.X.MakesScrapes.again) c.args.boards.now.items c.loop-at.boards.items
    c.loop-at.at
    c.index_mut.result.now c.scrape_board.new.board c.loop-at.parts.items (omega (arith, lt, end, same)) (omega (arith, lt, end))
    c.loop-at.invariant.rest c.index_mut.ensures.value c.loop-at.invariant.each c.in-Err.why c.in-Err.ensures)

pub loop-at-preserved : goal.loop-at-preserved
loop-at-preserved g c =
    let lt = c.loop-at-test.true in let end = c.len-at-end.ensures in let same = c.loop-at.invariant.len in
    let in_now : c.loop-at.at < length c.loop-at.boards.items = omega (arith, lt, end, same) in
    let in_old : c.loop-at.at < length c.args.boards.now.items = omega (arith, lt, end) in record {
      len = c.loop-at.invariant.len;
      count = let count = c.loop-at.invariant.count in let more = c.push_reserved.ensures.len in omega (arith, count, more);
      room = let room = c.loop-at.invariant.room in let still = c.push_reserved.ensures.capacity in omega (arith, room, still);
      each = subst (λ (l : List Scraped). AreMade (AsksAgain g.X.MakesScrapes.made g.X.MakesScrapes.again)
          (take (c.loop-at.at + 1) c.args.boards.now.items)
          (take (c.loop-at.at + 1) (set c.loop-at.boards.items c.loop-at.at c.scrape_board.new.board)) l)
          (sym c.push_reserved.ensures.items)
          (made_more (AsksAgain g.X.MakesScrapes.made g.X.MakesScrapes.again) c.args.boards.now.items c.loop-at.boards.items
          c.loop-at.at
          c.index_mut.result.now c.scrape_board.new.board c.loop-at.parts.items in_now in_old c.loop-at.invariant.rest
          c.index_mut.ensures.value c.loop-at.invariant.each c.in-Ok-scrape_board.part c.in-Ok-scrape_board.ensures);
      rest = still_behind (AsksAgain g.X.MakesScrapes.made g.X.MakesScrapes.again) c.args.boards.now.items c.loop-at.boards.items
          c.loop-at.at
          c.index_mut.result.now c.scrape_board.new.board c.loop-at.parts.items in_now in_old c.loop-at.invariant.rest
          c.index_mut.ensures.value c.loop-at.invariant.each;
    }

pub returns-clause-each : goal.returns-clause-each
returns-clause-each g c =
    let past = c.loop-at-test.false in let end = c.len-at-end.ensures in let same = c.loop-at.invariant.len in
    let all_old : length c.args.boards.now.items ≤ c.loop-at.at = omega (arith, past, end) in
    let all_now : length c.loop-at.boards.items ≤ c.loop-at.at = omega (arith, past, end, same) in
    subst (λ (l : List g.row.X.Denot). AreMade (AsksAgain g.X.MakesScrapes.made g.X.MakesScrapes.again) l c.loop-at.boards.items
    c.loop-at.parts.items) (take_all c.loop-at.at c.args.boards.now.items all_old)
    (subst (λ (l : List g.row.X.Denot). AreMade (AsksAgain g.X.MakesScrapes.made g.X.MakesScrapes.again)
    (take c.loop-at.at c.args.boards.now.items) l c.loop-at.parts.items) (take_all c.loop-at.at c.loop-at.boards.items all_now)
    c.loop-at.invariant.each)

pub returns-clause-stopped : goal.returns-clause-stopped
returns-clause-stopped g c = tt
