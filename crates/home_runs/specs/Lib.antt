pub mod Stoppings
