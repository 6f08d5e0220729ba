use Rattle.decimal_text.proofs.Texts.{whole_spells, fixed_spells, whole_again, nine_again}
use Rattle.decimal_text.proofs.writing.texts_are_read_again.Goals as goal

pub returns-clause-whole : goal.returns-clause-whole
returns-clause-whole c = whole_spells

pub returns-clause-fixed : goal.returns-clause-fixed
returns-clause-fixed c = fixed_spells

pub returns-clause-whole_again : goal.returns-clause-whole_again
returns-clause-whole_again c = whole_again

pub returns-clause-billionths_again : goal.returns-clause-billionths_again
returns-clause-billionths_again c = nine_again
