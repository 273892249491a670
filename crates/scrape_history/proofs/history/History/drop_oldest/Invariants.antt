use Rattle.std.proofs.Common.{◌≡◌, ◌-◌, ◌≤◌, length, drop}
use Rattle.scrape_history.proofs.history.History.drop_oldest.Given as goal

abbrev pub invariant-loop : goal.invariant-loop
invariant-loop g l = record {
  newest : l.self.scrapes ≡ drop (l.counter - l.most) l.initial.self.scrapes;
  places : l.self.places ≡ l.initial.self.places;
  room : l.initial.self.room ≤ l.self.room;
  few : l.counter - l.most ≤ length l.initial.self.scrapes - l.most;
}
