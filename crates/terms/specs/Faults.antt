-- What each fault says of itself.
use Rattle.std.specs.Prelude.{ℕ}
use Rattle.terms.specs.declared.fault.Layer.{Layer}
use Rattle.terms.specs.declared.fault.Layer.TheVariants.{Sheet, Price, Book, Room}
use Rattle.terms.specs.declared.fault.Fault.{Fault}
use Rattle.terms.specs.declared.fault.Fault.TheVariants.{SheetSize, Field, Code, AccountKind, NoSeries, OutOfRange, SameParties, PriceInput, NoPrice, WrongPhase, Enrolment, Listing, Marking, UnderNotice, PastLimit, BelowMargin, NothingToForce, NothingToCover, OutOfBounds, NoLines, NotEmpty}

abbrev pub layer_of : Fault → Layer
layer_of SheetSize = Sheet
layer_of (Field place) = Sheet
layer_of Code = Sheet
layer_of (AccountKind account) = Room
layer_of (NoSeries series) = Room
layer_of OutOfRange = Room
layer_of (SameParties account) = Room
layer_of (PriceInput trade) = Price
layer_of NoPrice = Price
layer_of WrongPhase = Room
layer_of (Enrolment customer) = Room
layer_of (Listing series) = Room
layer_of (Marking series) = Room
layer_of (UnderNotice account) = Room
layer_of (PastLimit account) = Room
layer_of (BelowMargin account) = Room
layer_of (NothingToForce account) = Room
layer_of (NothingToCover account) = Room
layer_of (OutOfBounds account) = Book
layer_of NoLines = Book
layer_of (NotEmpty account) = Room

abbrev pub number_of : Fault → ℕ
number_of SheetSize = 1
number_of (Field place) = 2
number_of Code = 3
number_of (AccountKind account) = 4
number_of (NoSeries series) = 5
number_of OutOfRange = 6
number_of (SameParties account) = 7
number_of (PriceInput trade) = 8
number_of NoPrice = 9
number_of WrongPhase = 21
number_of (Enrolment customer) = 22
number_of (Listing series) = 23
number_of (Marking series) = 24
number_of (UnderNotice account) = 25
number_of (PastLimit account) = 26
number_of (BelowMargin account) = 27
number_of (NothingToForce account) = 28
number_of (NothingToCover account) = 29
number_of (OutOfBounds account) = 30
number_of NoLines = 31
number_of (NotEmpty account) = 32

-- the account, series, trade or field that it is about, and 0 where it is about none
abbrev pub place_of : Fault → ℕ
place_of SheetSize = 0
place_of (Field place) = place
place_of Code = 1
place_of (AccountKind account) = account
place_of (NoSeries series) = series
place_of OutOfRange = 0
place_of (SameParties account) = account
place_of (PriceInput trade) = trade
place_of NoPrice = 0
place_of WrongPhase = 0
place_of (Enrolment customer) = customer
place_of (Listing series) = series
place_of (Marking series) = series
place_of (UnderNotice account) = account
place_of (PastLimit account) = account
place_of (BelowMargin account) = account
place_of (NothingToForce account) = account
place_of (NothingToCover account) = account
place_of (OutOfBounds account) = account
place_of NoLines = 0
place_of (NotEmpty account) = account
