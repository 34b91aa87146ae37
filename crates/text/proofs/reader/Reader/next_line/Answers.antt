use Rattle.std.proofs.Common.{◌+◌, arith}
use Rattle.std.proofs.lemmas.Grind.{common_steps}
use Rattle.std.proofs.lemmas.List.{take_rest, drop-drop}
use Rattle.text.proofs.reader.Reader.next_line.Goals as goal

pub returns-in-Some-clause-reads : goal.returns-in-Some-clause-reads
returns-in-Some-clause-reads c front next =
    let s = c.args.self.now.text.now in
    let at = c.args.self.now.at in
    grind (arith, common_steps, take_rest s at, drop-drop (c.in-Some.end + 1) at s)
