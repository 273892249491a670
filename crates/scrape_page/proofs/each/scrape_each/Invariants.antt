use Rattle.std.proofs.Common.{◌≡◌, ◌≤◌, take, drop}
use Rattle.std.specs.Vec.{vec_len, vec_capacity}
use Rattle.scrape_server.specs.Again.{AsksAgain}
use Rattle.scrape_page.specs.Scraping.{AreMade}
use Rattle.scrape_page.proofs.each.scrape_each.Given as goal

-- those before this place made a scrape each, and those from it on are as they were; there is room for all scrapes
abbrev pub invariant-loop-at : goal.invariant-loop-at
invariant-loop-at g l = record {
  len : vec_len l.boards ≡ vec_len l.fn.boards;
  count : vec_len l.parts ≡ l.at;
  room : vec_len l.fn.boards ≤ vec_capacity l.parts;
  each : AreMade (AsksAgain g.X.MakesScrapes.made g.X.MakesScrapes.again) (take l.at l.fn.boards.items) (take l.at l.boards.items)
      l.parts.items;
  rest : drop l.at l.boards.items ≡ drop l.at l.fn.boards.items;
}
