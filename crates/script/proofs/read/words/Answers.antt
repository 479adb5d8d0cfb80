use Rattle.std.proofs.lemmas.Iterator.Consumers.{map_from_collect}
use Rattle.script.proofs.Words.{words_are}
use Rattle.script.proofs.read.words.Goals as goal

pub returns : goal.returns
returns c = map_from_collect _ c.collect.ensures.ran (words_are c.args.line.now c.utf8.line c.split_whitespace.ensures.rest)
