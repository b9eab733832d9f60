-- How a fault is told.
use Rattle.std.specs.Prelude.{ℕ, List, ◌++◌, codes, decimal}
use Rattle.terms.specs.Faults.{layer_of, number_of, place_of}
use Rattle.terms.specs.declared.fault.Fault.{Fault}
use Rattle.terms.specs.declared.fault.Layer.{Layer}
use Rattle.terms.specs.declared.fault.Layer.TheVariants.{Sheet, Price, Book, Room}

abbrev pub layer_words : Layer → List ℕ
layer_words Sheet = codes "sheet"
layer_words Price = codes "price"
layer_words Book = codes "book"
layer_words Room = codes "room"

abbrev pub fault_words : Fault → List ℕ
fault_words f = codes "refused: number " ++ (decimal (number_of f) ++ (codes ", layer " ++ (layer_words (layer_of f) ++ (codes ", place " ++ decimal (place_of f)))))
