pub mod Agenda
