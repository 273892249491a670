use Rattle.std.proofs.Common.{◌≡◌, All, take}
use Rattle.std.specs.Prelude.{IsUtf8}
use Rattle.dirgwako.specs.Texts.{texts_of}
use Rattle.dirgwako_c.proofs.texts.texts.Given as goal

abbrev pub invariant-loop-place : goal.invariant-loop-place
invariant-loop-place l = record {
  read : texts_of l.texts.items ≡ take l.place (texts_of l.bytes);
  good : All IsUtf8 (take l.place (texts_of l.bytes));
}
