-- Sizes of glue that may be no dimensions yet, as the glue that they are of.
use Rattle.tx_num.specs.Glue.{GlueSpec, glue_of}
use Rattle.tx_word.specs.declared.space.Sizes.{Sizes}

abbrev pub glue_of_sizes : Sizes → GlueSpec
glue_of_sizes s = glue_of s.width s.stretch s.stretch_order s.shrink s.shrink_order
