use Rattle.std.proofs.Common.{◌≤◌, take}
use Rattle.scrape_page.specs.Framed.{AreFrames}
use Rattle.scrape_page.proofs.scraping.frames_of.Given as goal

-- the families of the numbers so far have a frame each, and there is room for the vector
abbrev pub invariant-loop-number : goal.invariant-loop-number
invariant-loop-number l = record {
  numbers : l.numbers ≤ l.frames.numbers;
  frames : AreFrames l.families (take l.number-index l.order) l.frames.families;
}
