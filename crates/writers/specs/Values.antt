-- What the values stand for that are written: a header's bytes, a capture and a constant of the definition.
use Rattle.std.specs.Prelude.{ℕ, List, ◌++◌}
use Rattle.meaning.specs.Image.{word, field}
use Rattle.meaning.specs.State as state
use Rattle.meaning.specs.Constant as constant
use Rattle.writers.specs.declared.Header.{Header}
use Rattle.writers.specs.declared.Capture.{Capture}
use Rattle.writers.specs.declared.Constant.{Constant}
use Rattle.writers.specs.declared.Constant.TheVariants.{Number, Text, Other}

-- tag 41: name, parameters, registers, captures, instructions
abbrev pub header_bytes : Header → List ℕ
header_bytes h = field 0x41 (word h.name ++ (word h.params ++ (word h.registers ++ (word h.captures ++ word h.code))))

abbrev pub capture_of : Capture → state.Capture
capture_of c = record { is_local = c.local; index = c.index }

abbrev pub constant_of : Constant → constant.Constant
constant_of (Number bits) = constant.number bits
constant_of (Text name) = constant.text name
constant_of (Other word) = constant.other word
