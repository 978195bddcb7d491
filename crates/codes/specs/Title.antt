-- What the code's operators and kinds stand for: the definition's.
use Rattle.definition.specs.Rule as rule
use Rattle.codes.specs.declared.title.Operator.{Operator}
use Rattle.codes.specs.declared.title.Operator.TheVariants.{Normal, Additional, Fallback}
use Rattle.codes.specs.declared.title.Kind.{Kind}
use Rattle.codes.specs.declared.title.Kind.TheVariants.{Open, Closed, Unknown}

abbrev pub as_operator : Operator → rule.Operator
as_operator Normal = rule.Normal
as_operator Additional = rule.Additional
as_operator Fallback = rule.Fallback

abbrev pub as_kind : Kind → rule.Kind
as_kind Open = rule.Open
as_kind Closed = rule.Closed
as_kind Unknown = rule.Unknown
