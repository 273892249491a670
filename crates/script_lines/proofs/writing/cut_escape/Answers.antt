use lib.Utf8.{encode}
use Rattle.script_lines.proofs.Writings.{letter_there}
use Rattle.script_lines.proofs.writing.cut_escape.Goals as goal

pub unreachable-requires : goal.unreachable-requires
unfolding encode
unreachable-requires c =
    letter_there c.args.text.now c.requires c.in_default.ensures.cases c.in_default-strip_prefix.ensures.cases
    c.in_default-strip_prefix-2.ensures.cases c.in_default-strip_prefix-3.ensures.cases
