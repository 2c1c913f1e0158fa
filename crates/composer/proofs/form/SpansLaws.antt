-- No seed at all spans nothing. Assumes nothing.
use mathlib.Core.Path.{◌≡◌, refl}
use mathlib.Core.List.{[]}
use Rattle.composer.specs.Form.Spans.{spans_of, spans_number_of}

pub spans_none : spans_number_of (spans_of []) ≡ 1
unfolding spans_of
spans_none = refl
