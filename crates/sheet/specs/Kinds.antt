-- The thirteen calls by their codes, and the fields that each of them uses.
use Rattle.std.specs.Prelude.{ℕ, Bool, true, false, cond, Some, None, Option, ◌==◌, unwrap_or}
use Rattle.terms.specs.declared.call.Call.{Call}
use Rattle.terms.specs.declared.call.Call.TheVariants as call
use Rattle.sheet.specs.declared.kind.Kind.{Kind}
use Rattle.sheet.specs.declared.kind.Kind.TheVariants.{Begin, Enrol, List, Deposit, Withdraw, Trade, Late, Shut, Mark, Final, Force, Cover, Notices}
use Rattle.sheet.specs.declared.kind.Fields.{Fields}

abbrev pub kind_of : ℕ → Option Kind
kind_of n =
    cond (n == 1) (Some Begin) (cond (n == 2) (Some Enrol) (cond (n == 3) (Some List)
    (cond (n == 4) (Some Deposit) (cond (n == 5) (Some Withdraw) (cond (n == 6) (Some Trade)
    (cond (n == 7) (Some Late) (cond (n == 8) (Some Shut) (cond (n == 9) (Some Mark)
    (cond (n == 10) (Some Final) (cond (n == 11) (Some Force) (cond (n == 12) (Some Cover)
    (cond (n == 13) (Some Notices) None))))))))))))

abbrev pub code_of : Kind → ℕ
code_of Begin = 1
code_of Enrol = 2
code_of List = 3
code_of Deposit = 4
code_of Withdraw = 5
code_of Trade = 6
code_of Late = 7
code_of Shut = 8
code_of Mark = 9
code_of Final = 10
code_of Force = 11
code_of Cover = 12
code_of Notices = 13

-- a row: first, second, series, count, price, amount
abbrev pub row : {X : Type 0} → X → X → X → X → X → X → Fields X
row first second series count price amount =
    record { first = first; second = second; series = series; count = count; price = price; amount = amount }

-- the table of the fields that are used
abbrev pub uses_of : Kind → Fields Bool
uses_of Begin = row false false false false false false
uses_of Enrol = row true true false false false false
uses_of List = row true true true false true true
uses_of Deposit = row true false false false false true
uses_of Withdraw = row true false false false false true
uses_of Trade = row true true true true true false
uses_of Late = row false false false false false false
uses_of Shut = row false false false false false false
uses_of Mark = row false false true false true false
uses_of Final = row false false true false true false
uses_of Force = row true true true true true false
uses_of Cover = row true false false false false false
uses_of Notices = row false false false false false false

-- the number in a field, 0 in a blank one
abbrev pub number_in : Option ℕ → ℕ
number_in o = unwrap_or o 0

-- the call of a kind with these numbers, and its parts
abbrev pub call_of : Kind → Fields (Option ℕ) → Call
call_of Begin f = call.Begin
call_of Enrol f = call.Enrol (number_in f.first) (number_in f.second)
call_of List f = call.List (number_in f.first) (number_in f.second) (number_in f.series) (number_in f.price) (number_in f.amount)
call_of Deposit f = call.Deposit (number_in f.first) (number_in f.amount)
call_of Withdraw f = call.Withdraw (number_in f.first) (number_in f.amount)
call_of Trade f = call.Trade (number_in f.first) (number_in f.second) (number_in f.series) (number_in f.count) (number_in f.price)
call_of Late f = call.Late
call_of Shut f = call.Shut
call_of Mark f = call.Mark (number_in f.series) (number_in f.price)
call_of Final f = call.Final (number_in f.series) (number_in f.price)
call_of Force f = call.Force (number_in f.first) (number_in f.second) (number_in f.series) (number_in f.count) (number_in f.price)
call_of Cover f = call.Cover (number_in f.first)
call_of Notices f = call.Notices

abbrev pub kind_in : Call → Kind
kind_in call.Begin = Begin
kind_in (call.Enrol customer broker) = Enrol
kind_in (call.List size limit series price fee) = List
kind_in (call.Deposit account amount) = Deposit
kind_in (call.Withdraw account amount) = Withdraw
kind_in (call.Trade buyer seller series count price) = Trade
kind_in call.Late = Late
kind_in call.Shut = Shut
kind_in (call.Mark series price) = Mark
kind_in (call.Final series price) = Final
kind_in (call.Force customer counterparty series offer price) = Force
kind_in (call.Cover customer) = Cover
kind_in call.Notices = Notices

-- its numbers, each in its field
abbrev pub numbers_in : Call → Fields (Option ℕ)
numbers_in call.Begin = row None None None None None None
numbers_in (call.Enrol customer broker) = row (Some customer) (Some broker) None None None None
numbers_in (call.List size limit series price fee) = row (Some size) (Some limit) (Some series) None (Some price) (Some fee)
numbers_in (call.Deposit account amount) = row (Some account) None None None None (Some amount)
numbers_in (call.Withdraw account amount) = row (Some account) None None None None (Some amount)
numbers_in (call.Trade buyer seller series count price) = row (Some buyer) (Some seller) (Some series) (Some count) (Some price) None
numbers_in call.Late = row None None None None None None
numbers_in call.Shut = row None None None None None None
numbers_in (call.Mark series price) = row None None (Some series) None (Some price) None
numbers_in (call.Final series price) = row None None (Some series) None (Some price) None
numbers_in (call.Force customer counterparty series offer price) = row (Some customer) (Some counterparty) (Some series) (Some offer) (Some price) None
numbers_in (call.Cover customer) = row (Some customer) None None None None None
numbers_in call.Notices = row None None None None None None
