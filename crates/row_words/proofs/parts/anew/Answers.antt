use Rattle.std.proofs.Common.{rules}
use Rattle.row_words.proofs.parts.anew.Goals as goal

pub returns-in_err-rows-clause-generation : goal.returns-in_err-rows-clause-generation
returns-in_err-rows-clause-generation g c = search rules

pub returns-in_err-image_anew-clause-generation : goal.returns-in_err-image_anew-clause-generation
returns-in_err-image_anew-clause-generation g c = search rules

pub returns-in_err-cells_anew-clause-generation : goal.returns-in_err-cells_anew-clause-generation
returns-in_err-cells_anew-clause-generation g c = search rules

pub returns-in_err-set_parts-clause-generation : goal.returns-in_err-set_parts-clause-generation
returns-in_err-set_parts-clause-generation g c = search rules

pub returns-clause-generation : goal.returns-clause-generation
returns-clause-generation g c = search rules
