-- Fields that are no plain numbers: what a byte stands for, and the byte that stands for it.
use Rattle.std.specs.Prelude.{ℕ, cond, Some, None, Option, ◌==◌}
use Rattle.tables.specs.declared.records.Use.{Use}
use Rattle.tables.specs.declared.records.Use.TheVariants.{Plain, Sensor, Actuator, Unlisted}
use Rattle.tables.specs.declared.records.Form.{Form}
use Rattle.tables.specs.declared.records.Form.TheVariants.{Concrete, Abstract, Unlisted as Odd}

-- An owner or a parent; 255 is none.
abbrev pub number_or_none : ℕ → Option ℕ
number_or_none b = cond (b == 255) None (Some b)

abbrev pub byte_or_none : Option ℕ → ℕ
byte_or_none None = 255
byte_or_none (Some b) = b

-- A communicator's use: 0 plain, 1 sensor, 2 actuator.
abbrev pub use_of : ℕ → Use
use_of b = cond (b == 0) Plain (cond (b == 1) Sensor (cond (b == 2) Actuator (Unlisted b)))

abbrev pub use_byte : Use → ℕ
use_byte Plain = 0
use_byte Sensor = 1
use_byte Actuator = 2
use_byte (Unlisted b) = b

-- A task's form: 0 concrete, 1 abstract.
abbrev pub form_of : ℕ → Form
form_of b = cond (b == 0) Concrete (cond (b == 1) Abstract (Odd b))

abbrev pub form_byte : Form → ℕ
form_byte Concrete = 0
form_byte Abstract = 1
form_byte (Odd b) = b
