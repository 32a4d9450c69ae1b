pub mod RollOut
