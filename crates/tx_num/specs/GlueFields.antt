-- The fields of the type `Glue`, as the glue that they stand for.
use Rattle.tx_num.specs.Glue.{GlueSpec}
use Rattle.tx_num.specs.declared.glue_spec.Glue.TheInside.{Inside}

abbrev pub spec_of : Inside → GlueSpec
spec_of g = record {
  width = g.width;
  stretch = g.stretch;
  stretch_order = g.stretch_order;
  shrink = g.shrink;
  shrink_order = g.shrink_order;
}

abbrev pub fields_of : GlueSpec → Inside
fields_of g = record {
  width = g.width;
  stretch = g.stretch;
  stretch_order = g.stretch_order;
  shrink = g.shrink;
  shrink_order = g.shrink_order;
}
